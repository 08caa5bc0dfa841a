-- The fields of a 32-bit word, by division and remainder. Bit 0 is the lowest. Assumes nothing.
use Rattle.std.specs.Prelude.{ℕ, zero, suc, ◌+◌, ◌-◌, ◌*◌, ◌/◌, ◌%◌, ◌^◌}
use Rattle.word32.specs.declared.WordKind.{WordKind}
use Rattle.word32.specs.declared.WordKind.TheVariants.{Input, Hidden, Observable, Read, Exits, Vector}

-- bits 31..29: what kind of word it is
abbrev pub kind : ℕ → ℕ
kind w = w / 2 ^ 29

-- the number of each kind
abbrev pub code_of : WordKind → ℕ
code_of Input = 0
code_of Hidden = 1
code_of Observable = 2
code_of Read = 3
code_of Exits = 4
code_of Vector = 5

-- bits 28..0, which must be zero in an input
abbrev pub input_spare : ℕ → ℕ
input_spare w = w % 2 ^ 29

-- bits 28..16, which must be zero in an output graph's header
abbrev pub header_spare : ℕ → ℕ
header_spare w = w / 2 ^ 16 % 2 ^ 13

-- bits 28..17, which must be zero in a read
abbrev pub read_spare : ℕ → ℕ
read_spare w = w / 2 ^ 17 % 2 ^ 12

-- bit 28, which must be zero in a pair of exits
abbrev pub exits_spare : ℕ → ℕ
exits_spare w = w / 2 ^ 28 % 2

-- bits 15..0 of a header: how many nodes follow
abbrev pub node_count : ℕ → ℕ
node_count w = w % 2 ^ 16

-- bits 15..0 of a read: which graph is read
abbrev pub read_graph : ℕ → ℕ
read_graph w = w % 2 ^ 16

-- bit 16 of a read: 1 where it is inverted
abbrev pub read_inverted : ℕ → ℕ
read_inverted w = w / 2 ^ 16 % 2

-- the read w with graph g, below 2 ^ 16, in the place of its own: every other bit stays
abbrev pub with_read : ℕ → ℕ → ℕ
with_read w g = w - read_graph w + g

-- one of a pair of exits: at decision 0 bits 27..14, at decision 1 bits 13..0
abbrev pub exit_of : ℕ → ℕ → ℕ
exit_of w zero = w / 2 ^ 14 % 2 ^ 14
exit_of w (suc d) = w % 2 ^ 14

-- a header of kind k that counts n, below 2 ^ 16; and a pair of exits, each below 2 ^ 14: e at decision 0, d at decision 1
abbrev pub header_word : ℕ → ℕ → ℕ
header_word k n = k * 2 ^ 29 + n

abbrev pub exits_word : ℕ → ℕ → ℕ
exits_word e d = 4 * 2 ^ 29 + e * 2 ^ 14 + d

-- IN A GATE LIST. Of a gate's header: its function, bits 28..26; bits 25..16, which must be zero; how many leads follow, bits 15..0
abbrev pub gate_function : ℕ → ℕ
gate_function w = w / 2 ^ 26 % 2 ^ 3

abbrev pub gate_spare : ℕ → ℕ
gate_spare w = w / 2 ^ 16 % 2 ^ 10

abbrev pub lead_count : ℕ → ℕ
lead_count w = w % 2 ^ 16

-- Of a lead: bits 28..16, which must be zero; and which line it names, bits 15..0
abbrev pub lead_spare : ℕ → ℕ
lead_spare w = w / 2 ^ 16 % 2 ^ 13

abbrev pub lead_line : ℕ → ℕ
lead_line w = w % 2 ^ 16

-- bit i
abbrev pub bit_of : ℕ → ℕ → ℕ
bit_of w i = w / 2 ^ i % 2
