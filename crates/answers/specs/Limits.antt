-- The limits of a card and of a list of vectors: document 01, 'The card's words' and 'Refused words', and what follows from them. Assumes nothing.
use Rattle.std.specs.Prelude.{ℕ, ◌+◌, ◌*◌, ◌/◌}

abbrev pub max_graphs : ℕ
max_graphs = 1024

abbrev pub max_nodes : ℕ
max_nodes = 4096

-- a word for each graph, and two for each node
abbrev pub max_words : ℕ
max_words = max_graphs + 2 * max_nodes

-- fault sites: nodes and graphs, each with two faults
abbrev pub max_sites : ℕ
max_sites = max_nodes + max_graphs

abbrev pub max_faults : ℕ
max_faults = 2 * max_sites

-- vectors of a list, and words of a vector, which has 16 inputs to a word
abbrev pub max_vectors : ℕ
max_vectors = 65535

abbrev pub max_width : ℕ
max_width = max_graphs / 16
