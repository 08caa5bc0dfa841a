-- THE VALUES of a joined card's graphs are those of its parts, under every setting of its sites and every vector. Assumes nothing.
use Prim.Native.Nat.{ℕ, ◌+◌, ◌<◌, ◌≤◌}
use mathlib.Core.Path.{◌≡◌, refl, sym, ap, ◌∙◌}
use mathlib.Core.List.{List}
use mathlib.Core.Bool.{Bool, true, false, not}
use native.Mathlib.Omega.{arith}
use lib.ListN.{get_or}
use Rattle.lists.specs.Counting.{choose}
use Rattle.answers.specs.declared.Counts.{Counts}
use Rattle.std.specs.Prelude.{Ok}
use Rattle.testvectors.specs.Vectors.{bit, vector_verdict}
use Rattle.testvectors.proofs.Laws.{bit-value}
use Rattle.testvectors.proofs.Made.{made-bit, made-sound}
use Rattle.value.specs.Settings.{Setting, Keeps}
use Rattle.value.specs.Values.{value}
use Rattle.value.proofs.Values.{value-input, value-bit}
use Rattle.wiring.specs.Joined.{is_free, free_below, free, number_a, number_b, joined_counts, joined}
use Rattle.wiring.specs.Parts.{site_in, site_a, site_b, is_wired, setting_a, setting_b, vector_a, vector_b}
use Rattle.wiring.specs.Both.{ValuesOfBoth}
use Rattle.wiring.proofs.Numbers.{input-a, free-b, wired-b, free-inside}
use Rattle.wiring.proofs.Sites.{graph-in, wired-node, wired-output, wired-input}
use Rattle.wiring.proofs.Part.{Alike, part-values, Joins}

-- what the setting s makes of the parts' sites are the settings t of A and u of B, which leaves B's wired inputs alone
pub record Shares (A B : Counts) (wires : List ℕ) (s t u : Setting) : Type 0 where
  pub a : (p v : ℕ) → p < A.nodes + A.graphs → t p v ≡ s (site_a A B wires p) v
  pub b : (p v : ℕ) → p < B.nodes + B.graphs → is_wired A B wires p ≡ false → u p v ≡ s (site_b A B wires p) v
  pub wired : (p v : ℕ) → p < B.nodes + B.graphs → is_wired A B wires p ≡ true → u p v ≡ v
  pub bits : Keeps t

module _ {a b : List ℕ} {A B : Counts} {wires : List ℕ} (joins : Joins a b A B wires) where
  abbrev js : List ℕ
  js = joined A B wires a b

  abbrev C : Counts
  C = joined_counts A B wires

  abbrev few : A.inputs ≤ A.graphs
  few = joins.part-a.own.inputs_in

  -- A's part of a vector, and B's, where A has a setting that gives bits: both are vectors, and these are the bits of B's
  sound-a : (x : List ℕ) → vector_verdict A.inputs (vector_a A B wires x) ≡ Ok tt
  sound-a x = made-sound A.inputs (bit x) (λ i _. bit-value x i)

  module _ {t : Setting} (keeps : Keeps t) (x : List ℕ) where
    abbrev given : Bool → ℕ → ℕ
    given f i = choose f (bit x (A.inputs + free_below wires i)) (value a A t (vector_a A B wires x) (get_or wires i 0))

    given-bit : (f : Bool) (i : ℕ) → i < B.inputs → is_free wires i ≡ f → given f i < 2
    given-bit true i h e = bit-value x (A.inputs + free_below wires i)
    given-bit false i h e = value-bit joins.part-a.own t (vector_a A B wires x) keeps (get_or wires i 0) (joins.wired.named i h e)

    sound-b : vector_verdict B.inputs (vector_b A B wires x (value a A t (vector_a A B wires x))) ≡ Ok tt
    sound-b = made-sound B.inputs (λ i. given (is_free wires i) i) (λ i h. given-bit (is_free wires i) i h refl)

    bit-b : (f : Bool) (h : ℕ) → h < B.inputs → is_free wires h ≡ f → bit (vector_b A B wires x (value a A t (vector_a A B wires x))) h ≡ given f h
    bit-b f h l e =
        made-bit B.inputs (λ i. given (is_free wires i) i) (λ i h. given-bit (is_free wires i) i h refl) h l ∙ ap (λ (f : Bool). given f h) e

  module _ {s t u : Setting} (shares : Shares A B wires s t u) (x : List ℕ) where
    abbrev x_a : List ℕ
    x_a = vector_a A B wires x

    abbrev x_b : List ℕ
    x_b = vector_b A B wires x (value a A t x_a)

    -- an input of the joined card has its vector bit: so has an input of a part that is one of them
    input-there : (number : ℕ → ℕ) (before n g : ℕ) {v w : ℕ} → number g < A.inputs + free A B wires → bit x (number g) ≡ v
        → w ≡ s (site_in C.nodes before n number (n + g)) v → value js C s x (number g) ≡ w
    input-there number before n g {v} l e same =
        value-input joins.part-a.whole s x (number g) (omega (arith, few)) (joins.input (number g) l)
        ∙ ap (s (C.nodes + number g)) e ∙ ap (λ (p : ℕ). s p v) (sym (graph-in C.nodes before n number g)) ∙ sym same

    alike-a : Alike a js A C (number_a A B wires) 0 s t x x_a
    unfolding site_a
    alike-a = record {
      input = λ g h.
          let e = input-a A B wires g h in
          input-there (number_a A B wires) 0 A.nodes g (omega arith)
          (ap (bit x) e ∙ sym (made-bit A.inputs (bit x) (λ i _. bit-value x i) g h)) (shares.a (A.nodes + g) (bit x_a g) (omega (arith, few)));
      node = λ p v h. shares.a p v (omega arith);
      output = λ g v i l. shares.a (A.nodes + g) v (omega arith);
    }

    values-a : (g : ℕ) → g < A.graphs → value js C s x (number_a A B wires g) ≡ value a A t x_a g
    values-a = part-values joins.part-a alike-a

    -- a free input of B is one of the joined card's inputs, and a wired one is a graph of A
    inputs-b : (f : Bool) (h : ℕ) → h < B.inputs → is_free wires h ≡ f → value js C s x (number_b A B wires h) ≡ u (B.nodes + h) (bit x_b h)
    unfolding site_b
    inputs-b true h l e =
        let n = free-b A B wires h l e in
        input-there (number_b A B wires) A.nodes B.nodes h (omega (arith, free-inside A B wires h l e))
        (ap (bit x) n ∙ sym (bit-b shares.bits x true h l e))
        (shares.b (B.nodes + h) (bit x_b h) (omega (arith, joins.part-b.own.inputs_in)) (wired-input A B wires h l ∙ ap not e))
    inputs-b false h l e =
        ap (value js C s x) (wired-b A B wires h l e) ∙ values-a (get_or wires h 0) (joins.wired.named h l e)
        ∙ sym (bit-b shares.bits x false h l e)
        ∙ sym (shares.wired (B.nodes + h) (bit x_b h) (omega (arith, joins.part-b.own.inputs_in)) (wired-input A B wires h l ∙ ap not e))

    alike-b : Alike b js B C (number_b A B wires) A.nodes s u x x_b
    unfolding site_b
    alike-b = record {
      input = λ h l. inputs-b (is_free wires h) h l refl;
      node = λ p v h. shares.b p v (omega arith) (wired-node A B wires p h);
      output = λ h v i l. shares.b (B.nodes + h) v (omega arith) (wired-output A B wires h i);
    }

    values-b : (h : ℕ) → h < B.graphs → value js C s x (number_b A B wires h) ≡ value b B u x_b h
    values-b = part-values joins.part-b alike-b

  -- THE VALUES: of A with t and of B with u
  pub values-of-both : {s t u : Setting} → Shares A B wires s t u → ValuesOfBoth a b A B wires s t u
  values-of-both shares = record {
    vector-a = sound-a;
    vector-b = sound-b shares.bits;
    value-a = values-a shares;
    value-b = values-b shares;
  }

  -- so it is with every setting that gives bits
  pub joined-values : (s : Setting) → Keeps s → ValuesOfBoth a b A B wires s (setting_a A B wires s) (setting_b A B wires s)
  joined-values s keeps = values-of-both (record {
    a = λ p v h. refl;
    b = λ p v h e. rw e;
    wired = λ p v h e. ap (λ (i : Bool). choose i v (s (site_b A B wires p) v)) e;
    bits = λ p v h. keeps (site_a A B wires p) v h;
  })
