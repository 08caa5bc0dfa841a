-- What the parts of the check of nodes promise: a sound node's exits, and the table of named nodes. A part is given what was due, a word or
-- the end, and not the card: its promise is for every list of words in which that is due, and there is such a list (`reader`'s law `some-list`). The
-- check's own contract cites none of these. Assumes nothing.
use Rattle.std.specs.Prelude.{ℕ, zero, suc, ◌+◌, ◌*◌, ◌<◌, ◌≤◌, ◌≡◌, List, Bool, length, get_or, set, eqb, Result, Ok, Err}
use Rattle.lists.specs.Counting.{choose, some_below}
use Rattle.word32.specs.Fields.{exit_of}
use Rattle.answers.specs.declared.Refusal.{Refusal}
use Rattle.answers.specs.Answers.{Verdict}
use Rattle.reader.specs.Due.{Due, due_at}
use Rattle.answers.specs.Limits.{max_nodes}
use Rattle.form.specs.Check.{word, read_verdict, exits_verdict, nodes_verdict, names, unnamed}

-- the verdict on a word at a place, and on what was due, as a read in graph g
abbrev pub ReadWord : ℕ → ℕ → ℕ → Verdict → Type 0
ReadWord w at g r = (ws : List ℕ) → at < length ws → w ≡ word ws at → r ≡ read_verdict ws g at

abbrev pub ReadTold : Due → ℕ → Verdict → Type 0
ReadTold d g r = (ws : List ℕ) (p : ℕ) → d ≡ due_at ws p → r ≡ read_verdict ws g p

-- a node's two exits, or why they are refused
abbrev pub Exits : Type 0
Exits = Result (ℕ × ℕ) Refusal

-- both exits of the word w, where its verdict is sound
unfoldable pub exits_told : Verdict → ℕ → Exits
exits_told (Ok tt) w = Ok (exit_of w 0, exit_of w 1)
exits_told (Err r) w = Err r

-- the table after an exit: a constant names no node
abbrev pub name_exit : ℕ → List ℕ → List ℕ
name_exit zero t = t
name_exit (suc zero) t = t
name_exit (suc (suc l)) t = set t l 1

-- no node is named
pub record Blank (t : List ℕ) : Type 0 where
  pub long : length t ≡ max_nodes
  pub zeros : (i : ℕ) → get_or t i 0 ≡ 0

-- the table has 1 for each local node below n that an exit of the first k nodes names, and else 0
pub record Names (ws : List ℕ) (p n k : ℕ) (t : List ℕ) : Type 0 where
  pub has : (i : ℕ) → i < n → get_or t i 0 ≡ choose (some_below (names ws p i) k) 1 0
  pub rest : (i : ℕ) → n ≤ i → get_or t i 0 ≡ 0

-- the exits of local node k of n, from a word at a place and from what was due; their verdict, and the table after them where they are sound
abbrev pub ExitsWord : ℕ → ℕ → ℕ → ℕ → Exits → Type 0
ExitsWord w at n k r = (ws : List ℕ) → at < length ws → w ≡ word ws at → r ≡ exits_told (exits_verdict ws n k at) w

abbrev pub ExitsOf : Due → ℕ → ℕ → Exits → Type 0
ExitsOf d n k r = (ws : List ℕ) (p : ℕ) → d ≡ due_at ws p → r ≡ exits_told (exits_verdict ws n k p) (word ws p)

pub record ExitsTold (d : Due) (n k : ℕ) (t t' : List ℕ) (r : Verdict) : Type 0 where
  pub verdict : (ws : List ℕ) (p : ℕ) → d ≡ due_at ws p → r ≡ exits_verdict ws n k p
  pub table : (ws : List ℕ) (p : ℕ) → d ≡ due_at ws p → r ≡ Ok tt → t' ≡ name_exit (exit_of (word ws p) 1) (name_exit (exit_of (word ws p) 0) t)

-- the verdict on the n nodes after the header at p, and where it is sound the table, and the position due after them
pub record NodesTold (ws : List ℕ) (p g n : ℕ) (t : List ℕ) (at : ℕ) (r : Verdict) : Type 0 where
  pub verdict : r ≡ nodes_verdict ws g p n n 0
  pub names : r ≡ Ok tt → Names ws p n n t
  pub next : r ≡ Ok tt → at ≡ p + 1 + 2 * n

-- one of the n places after the first is 0
unfoldable pub zero_after : List ℕ → ℕ → Bool
unfolding some_below
zero_after t n = some_below (λ i. eqb (get_or t (suc i) 0) 0) n

-- whether one of a graph's n nodes is not named, told from the table that its nodes left; the table is blank after it
pub record UnnamedTold (n : ℕ) (t t' : List ℕ) (r : Bool) : Type 0 where
  pub verdict : (ws : List ℕ) (p : ℕ) → Names ws p n n t → r ≡ unnamed ws p n
  pub blank : ((i : ℕ) → n ≤ i → get_or t i 0 ≡ 0) → Blank t'
