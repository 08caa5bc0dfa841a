-- Fronts of lists. Assumes nothing.
use Rattle.std.proofs.Common.{◌≡◌, ℕ, ◌≤◌, List, take, sym, ap, ◌∙◌}
use Rattle.std.proofs.lemmas.List.{take-take}

-- where two lists have equal fronts, shorter ones are equal too
pub shorter-fronts : (m n : ℕ) (xs ys : List ℕ) → m ≤ n → take n xs ≡ take n ys → take m xs ≡ take m ys
shorter-fronts m n xs ys h e = sym (take-take m n xs h) ∙ ap (take m) e ∙ take-take m n ys h
