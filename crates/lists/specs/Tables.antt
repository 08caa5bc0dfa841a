-- Lists made by a rule, and buffers with such a list at their front. Assumes nothing.
use Rattle.std.specs.Prelude.{ℕ, zero, suc, List, [], ◌∷◌, ◌++◌, Bool, true, false, length, get_or, drop}

-- what stands at place g of a list, and 0 past its end
abbrev pub at : List ℕ → ℕ → ℕ
at vs g = get_or vs g 0

-- A net: what it gives at g where the places before g have the values v.
abbrev pub Net : Type 0
Net = (ℕ → ℕ) → ℕ → ℕ

-- The list of what a net gives at 0 to g - 1, each from those before it. The inner list is named once, so that evaluation shares it.
abbrev pub one_more : Net → ℕ → List ℕ → List ℕ
one_more b g vs = vs ++ (b (at vs) g ∷ [])

unfoldable pub grow : Net → ℕ → List ℕ
grow b zero = []
grow b (suc g) = one_more b g (grow b g)

-- the list f 0, f 1, .., f (n - 1): a net that reads nothing
abbrev pub tab : (ℕ → ℕ) → ℕ → List ℕ
tab f n = grow (λ v. f) n

-- the lists f 0, f 1, .., f (n - 1), one after the other
unfoldable pub chain : (ℕ → List ℕ) → ℕ → List ℕ
chain f zero = []
chain f (suc n) = chain f n ++ f n

-- A BUFFER FILLED BY A RULE: the first n words are f 0 to f (n - 1), the rest as they were
abbrev pub over : ℕ → (ℕ → ℕ) → List ℕ → List ℕ
over n f buffer = tab f n ++ drop n buffer

-- the same number everywhere
abbrev pub always : ℕ → ℕ → ℕ
always v i = v

-- the numbers below n that pass a test, rising
abbrev pub only_if : Bool → ℕ → List ℕ
only_if true n = n ∷ []
only_if false n = []

unfoldable pub chosen : (ℕ → Bool) → ℕ → List ℕ
chosen p zero = []
chosen p (suc n) = chosen p n ++ only_if (p n) n

-- A BUFFER WITH A LIST AT ITS FRONT: first the words of the list, the rest as they were
abbrev pub front : List ℕ → List ℕ → List ℕ
front xs buffer = xs ++ drop (length xs) buffer
