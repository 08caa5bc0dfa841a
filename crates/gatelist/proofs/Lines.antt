-- Where lines and leads stand, and how long a drawn card is. Assumes nothing.
use Prim.Native.Nat.{ℕ, zero, suc, ◌+◌, ◌-◌, ◌*◌, ◌≤◌}
use mathlib.Core.Path.{◌≡◌, refl}
use mathlib.Core.List.{List}
use native.Mathlib.Omega.{arith}
use native.Mathlib.Nat.{add-zero, add-suc}
use lib.ListN.{length, get_or}
use Rattle.lists.specs.Tables.{chain}
use Rattle.lists.proofs.Chain.{chain_next, chain-pairs}
use Rattle.word32.specs.Fields.{lead_count}
use Rattle.answers.specs.declared.Counts.{Counts}
use Rattle.gatelist.specs.Lines.{first_lead, leads}
use Rattle.gatelist.specs.Drawn.{lead_nodes, line_words, drawn}
use Rattle.gatelist.specs.AcceptsGates.{AcceptsGates}

module _ (gs : List ℕ) where
  pub lead-next : (l : ℕ) → first_lead gs (suc l) ≡ first_lead gs l + leads gs l
  unfolding first_lead leads
  lead-next l = refl

  pub lead-more : (l d : ℕ) → first_lead gs l ≤ first_lead gs (l + d)
  lead-more l zero = rw (add-zero l) (omega arith)
  lead-more l (suc d) = rw (add-suc l d) (omega (arith, lead-more l d, lead-next (l + d)))

  -- a line's words: its header, and two for each lead
  pub line-long : (p : ℕ) → length (line_words gs p) ≡ 1 + 2 * lead_count (get_or gs p 0)
  unfolding line_words
  line-long p = omega (arith, chain-pairs (lead_nodes gs p (get_or gs p 0)) (λ k. refl) (lead_count (get_or gs p 0)))

  drawn-none : length (drawn gs 0) ≡ 2 * first_lead gs 0
  unfolding drawn first_lead chain
  drawn-none = refl

  pub drawn-long : (n : ℕ) → length (drawn gs n) ≡ n + 2 * first_lead gs n
  unfolding drawn leads
  drawn-long zero = omega (arith, drawn-none)
  drawn-long (suc n) = omega (arith, chain_next (λ l. line_words gs (l + first_lead gs l)) n, line-long (n + first_lead gs n), drawn-long n, lead-next n)

-- of an accepted gate list: the leads before line l, and its card's words
pub lead-few : {gs : List ℕ} {c : Counts} → AcceptsGates gs c → (l : ℕ) → l ≤ c.graphs → first_lead gs l ≤ c.nodes
lead-few {gs} {c} a l h =
    let e : l + (c.graphs - l) ≡ c.graphs = omega arith in
    omega (arith, a.leads-in, rw e at (lead-more gs l (c.graphs - l)))

pub card-long : {gs : List ℕ} {c : Counts} → AcceptsGates gs c → length (drawn gs c.graphs) ≡ c.graphs + 2 * c.nodes
card-long {gs} {c} a = omega (arith, drawn-long gs c.graphs, a.leads-in)
