-- Sites of a card, and what faults make of them: document 01, 'Values and faults'. Assumes nothing.
use Rattle.std.specs.Prelude.{ℕ, ◌/◌, ◌%◌, ◌<◌, List, [], ◌∷◌, eqb}
use Rattle.lists.specs.Counting.{choose}

-- FAULT SITES, as the field calls the places where a fault can be: node j is site j, and graph g is site N + g. A setting s says what site p has where v
-- is worked out there, s p v: of a node its decision, of a graph its value.
abbrev pub Setting : Type 0
Setting = ℕ → ℕ → ℕ

-- a setting that gives bits
abbrev pub Keeps : Setting → Type 0
Keeps s = (p v : ℕ) → v < 2 → s p v < 2

-- STUCK-AT FAULTS: fault f holds site f / 2 at f % 2. So fault 2j makes node j always take its 0-exit and 2j + 1 its 1-exit, and fault 2N + 2g holds
-- graph g at 0 and 2N + 2g + 1 at 1.
abbrev pub stuck : ℕ → Setting → Setting
stuck f s p v = choose (eqb (f / 2) p) (f % 2) (s p v)

-- no fault
abbrev pub good : Setting
good p v = v

-- the faults of a list, all holding together: the field's multiple fault
unfoldable pub faulty : List ℕ → Setting
faulty [] = good
faulty (f ∷ fs) = stuck f (faulty fs)
