-- One graph: the walk through its nodes, where local node k takes the exit t k. No card in it. Assumes nothing.
use Prim.Native.Nat.{ℕ, zero, suc, ◌+◌, ◌-◌, ◌<◌, ◌≤◌}
use mathlib.Core.Path.{◌≡◌, refl, ap, ◌∙◌}
use native.Mathlib.Omega.{arith}
use Rattle.value.specs.declared.Walked.{Walked}
use Rattle.value.specs.Values.{follow, met_beyond, through_exit, walked, walk}

-- exits go to later nodes only, of the n that there are
abbrev pub Later : ℕ → (ℕ → ℕ) → Type 0
Later n t = (k l : ℕ) → k < n → t k ≡ suc (suc l) → (k < l) × (l < n)

pub follow-same : (f g : ℕ → ℕ) (e : ℕ) → ((l : ℕ) → e ≡ suc (suc l) → f l ≡ g l) → follow f e ≡ follow g e
follow-same f g zero h = refl
follow-same f g (suc zero) h = refl
follow-same f g (suc (suc l)) h = h l refl

-- the walk's value is 0 or 1
pub follow-bit : (f : ℕ → ℕ) (e : ℕ) → ((l : ℕ) → f l < 2) → follow f e < 2
follow-bit f zero h = omega arith
follow-bit f (suc zero) h = omega arith
follow-bit f (suc (suc l)) h = h l

pub walk-bit : (t : ℕ → ℕ) (left k : ℕ) → walk t left k < 2
unfolding walk
walk-bit t zero k = omega arith
walk-bit t (suc left) k = follow-bit (walk t left) (t k) (walk-bit t left)

-- any bound that is large enough gives the same, and so the bound is hidden
pub enough : (t : ℕ → ℕ) (n : ℕ) → Later n t → (a b k : ℕ) → k < n → n ≤ k + a → n ≤ k + b → walk t a k ≡ walk t b k
unfolding walk
enough t n later zero b k h p q = absurd (omega arith)
enough t n later (suc a) zero k h p q = absurd (omega arith)
enough t n later (suc a) (suc b) k h p q =
    follow-same (walk t a) (walk t b) (t k) (λ l e.
    let r = later k l h e in
    enough t n later a b l r.1 (omega arith) (omega arith))

pub node_law : (t : ℕ → ℕ) (n : ℕ) → Later n t → (k : ℕ) → k < n → walk t n k ≡ follow (walk t n) (t k)
unfolding walk
node_law t n later k h = enough t n later n (suc n) k h (omega arith) (omega arith)

-- two walks that agree from node k on have the same value there
pub same_nodes : (t u : ℕ → ℕ) (n : ℕ) → Later n t → (left k : ℕ) → k < n → ((j : ℕ) → k ≤ j → j < n → t j ≡ u j) → walk t left k ≡ walk u left k
unfolding walk
same_nodes t u n later zero k h s = refl
same_nodes t u n later (suc left) k h s =
    follow-same (walk t left) (walk u left) (t k) (λ l e.
    let r = later k l h e in
    same_nodes t u n later left l r.1 (λ j p. s j (omega arith)))
    ∙ ap (follow (walk u left)) (s k (omega arith) h)

-- the same for a whole graph, which may have no nodes
pub same_graph : (t u : ℕ → ℕ) (n : ℕ) → Later n t → ((j : ℕ) → j < n → t j ≡ u j) → walk t n 0 ≡ walk u n 0
unfolding walk
same_graph t u zero later s = refl
same_graph t u (suc n) later s = same_nodes t u (suc n) later (suc n) 0 (omega arith) (λ j _ l. s j l)

-- THE WALK WITH ITS DECISIONS. Its value is the walk's.
pub walk-walked : (t : ℕ → ℕ) (left k : ℕ) → walk t left k ≡ (walked t left k).value
unfolding walk walked
walk-walked t zero k = refl
walk-walked t (suc left) k =
    follow-same (walk t left) (λ l. (walked t left l).value) (t k) (λ l e. walk-walked t left l)

-- the same walk n decisions later
abbrev pub later-by : ℕ → Walked → Walked
later-by n w = record { value = w.value; decisions = n + w.decisions }

pub later-none : (w : Walked) → w ≡ later-by 0 w
later-none w = let z : w.decisions ≡ 0 + w.decisions = omega arith in ap (λ (m : ℕ). record { value = w.value; decisions = m }) z

through_same : (f g : ℕ → Walked) (e : ℕ) → ((l : ℕ) → e ≡ suc (suc l) → f l ≡ g l) → through_exit f e ≡ through_exit g e
through_same f g zero h = refl
through_same f g (suc zero) h = refl
through_same f g (suc (suc l)) h = ap (later-by 1) (h l refl)

-- it meets no more nodes than the bound allows
met-bounded : (f : ℕ → ℕ) (e n : ℕ) → ((l : ℕ) → f l ≤ n) → met_beyond f e ≤ n
met-bounded f zero n h = omega arith
met-bounded f (suc zero) n h = omega arith
met-bounded f (suc (suc l)) n h = h l

pub decisions-few : (t : ℕ → ℕ) (left k : ℕ) → (walked t left k).decisions ≤ left
unfolding walked
decisions-few t zero k = omega arith
decisions-few t (suc left) k = omega (arith, met-bounded (λ l. (walked t left l).decisions) (t k) left (decisions-few t left))

-- and where the bound allows one, at least one
pub decisions-some : (t : ℕ → ℕ) (n k : ℕ) → 0 < n → 0 < (walked t n k).decisions
unfolding walked
decisions-some t zero k h = absurd (omega arith)
decisions-some t (suc left) k h = omega arith

-- any bound that is large enough gives the same
enough-walked : (t : ℕ → ℕ) (n : ℕ) → Later n t → (a b k : ℕ) → k < n → n ≤ k + a → n ≤ k + b → walked t a k ≡ walked t b k
unfolding walked
enough-walked t n later zero b k h p q = absurd (omega arith)
enough-walked t n later (suc a) zero k h p q = absurd (omega arith)
enough-walked t n later (suc a) (suc b) k h p q =
    through_same (walked t a) (walked t b) (t k) (λ l e.
    let r = later k l h e in
    enough-walked t n later a b l r.1 (omega arith) (omega arith))

-- THE NODE LAW: from a node the walk goes through the exit taken
pub node-walked : (t : ℕ → ℕ) (n : ℕ) → Later n t → (k : ℕ) → k < n → walked t n k ≡ through_exit (walked t n) (t k)
unfolding walked
node-walked t n later k h = enough-walked t n later n (suc n) k h (omega arith) (omega arith)

-- through a constant, and through a local node
pub through-constant : (f : ℕ → Walked) (e : ℕ) → e < 2 → through_exit f e ≡ record { value = e; decisions = 1 }
through-constant f zero b = refl
through-constant f (suc zero) b = refl
through-constant f (suc (suc e)) b = absurd (omega arith)

pub through-node : (f : ℕ → Walked) (e : ℕ) → 2 ≤ e → through_exit f e ≡ later-by 1 (f (e - 2))
through-node f e b = let z : e ≡ suc (suc (e - 2)) = omega arith in ap (through_exit f) z

-- two walks that agree from node k on are the same there
nodes-walked : (t u : ℕ → ℕ) (n : ℕ) → Later n t → (left k : ℕ) → k < n → ((j : ℕ) → k ≤ j → j < n → t j ≡ u j) → walked t left k ≡ walked u left k
unfolding walked
nodes-walked t u n later zero k h s = refl
nodes-walked t u n later (suc left) k h s =
    through_same (walked t left) (walked u left) (t k) (λ l e.
    let r = later k l h e in
    nodes-walked t u n later left l r.1 (λ j p. s j (omega arith)))
    ∙ ap (through_exit (walked u left)) (s k (omega arith) h)

-- the same for a whole graph, which may have no nodes
pub graph-walked : (t u : ℕ → ℕ) (n : ℕ) → Later n t → ((j : ℕ) → j < n → t j ≡ u j) → walked t n 0 ≡ walked u n 0
unfolding walked
graph-walked t u zero later s = refl
graph-walked t u (suc n) later s = nodes-walked t u (suc n) later (suc n) 0 (omega arith) (λ j _ l. s j l)
