-- THE CARD OF A GATE LIST IS ACCEPTED, with the counts of the gate list. Assumes nothing.
use Prim.Native.Nat.{ℕ, zero, suc, ◌+◌, ◌-◌, ◌*◌, ◌<◌, ◌≤◌}
use mathlib.Core.Path.{◌≡◌, refl, sym, ap, ap₂, ◌∙◌}
use mathlib.Core.List.{List}
use mathlib.Core.Bool.{Bool, true, false, not, ◌||◌}
use native.Mathlib.Omega.{arith}
use lib.ListN.{length}
use lib.Dec.{ltb, leb, eqb}
use borrow.Author.Tests.{leb-false, le-ltb, lt-leb, eq-eqb, ne_eqb}
use Rattle.lists.specs.Counting.{choose, count}
use Rattle.lists.proofs.Tests.{agree, and-false, or-false, or-true, some-has, some-none}
use Rattle.lists.proofs.Counting.{count_same}
use Rattle.word32.specs.Fields.{kind, exits_spare, lead_count, header_word}
use Rattle.word32.proofs.Fields.{clear-before}
use Rattle.answers.specs.declared.Counts.{Counts}
use Rattle.std.specs.Prelude.{Ok}
use Rattle.layout.specs.Layout.{first, is_input, observable, exits, inverts}
use Rattle.value.specs.Direct.{Direct}
use Rattle.form.specs.Check.{card_length, word, misplaced, exits_verdict, unnamed, names, graph_verdict, checked}
use Rattle.form.proofs.Sound.{up_to, sound-accepted}
use Rattle.form.proofs.Verdicts.{Read, exits_tests}
use Rattle.form.proofs.Graphs.{Output, read_place, exits_at, due-sound, output-sound, input-sound}
use Rattle.gatelist.specs.Lines.{input_line, observable_line, function, leads, lead_word, named_line}
use Rattle.gatelist.specs.Drawn.{controlling, constant, gate_exit, drawn}
use Rattle.gatelist.specs.AcceptsGates.{Gate, AcceptsGates}
use Rattle.gatelist.proofs.Lines.{lead-next, lead-few, card-long}
use Rattle.gatelist.proofs.Walk.{gate-right, controlling-bit, constant-bit}
use Rattle.gatelist.proofs.Written.{fields, header_is, size_is, read_word, exits-word, exits-told, exit-is, first-is, graph-of}

-- AN EXIT goes to a constant, or to the next node
exit-placed : (f n k d : ℕ) → d < 2 → misplaced n k (gate_exit f n k d) ≡ false
unfolding misplaced gate_exit
exit-placed f n k d l = by (eqb d (controlling f) || leb n (k + 1)) refl
  where
    by : (b : Bool) → eqb d (controlling f) || leb n (k + 1) ≡ b → misplaced n k (choose b (constant f d) (k + 3)) ≡ false
    by true e = rw (le-ltb 1 (constant f d) (omega (arith, constant-bit f d l)))
    by false e =
        let m : k + 1 < n = leb-false n (k + 1) (or-false (eqb d (controlling f)) (leb n (k + 1)) e).1 in
        rw (lt-leb (k + 3) (k + 2) (omega arith), lt-leb (n + 2) (k + 3) (omega arith)) (and-false (ltb 1 (k + 3)))

-- and every node but the last is left for the next one, at the value that does not decide
exit-next : (f n k : ℕ) → k + 1 < n → gate_exit f n k (1 - controlling f) ≡ k + 3
unfolding gate_exit
exit-next f n k l = rw (ne_eqb (1 - controlling f) (controlling f) (λ e. omega (arith, controlling-bit f)), lt-leb n (k + 1) l)

-- one of two exits is v
one_of : (e : ℕ → ℕ) (d v : ℕ) → d < 2 → e d ≡ v → eqb (e 0) v || eqb (e 1) v ≡ true
one_of e zero v l q = ap (◌|| eqb (e 1) v) (eq-eqb (e 0) v q)
one_of e (suc zero) v l q = ap (eqb (e 0) v ||◌) (eq-eqb (e 1) v q) ∙ or-true (eqb (e 0) v)
one_of e (suc (suc d)) v l q = absurd (omega arith)

module _ {gs : List ℕ} {c : Counts} (a : AcceptsGates gs c) where
  abbrev card : List ℕ
  card = drawn gs c.graphs

  -- A GATE'S GRAPH IS SOUND
  module _ (l : ℕ) (h : l < c.graphs) (g : Gate gs l) where
    inside : l + 1 + 2 * (first card l + leads gs l) ≤ length card
    inside = omega (arith, first-is a l (omega arith), lead-next gs l, lead-few a (suc l) h, card-long a)

    reads-good : (k : ℕ) → k < leads gs l → Read card l (read_place card l k)
    unfolding named_line
    reads-good k m =
        let e = read_word a l h k m in
        record {
          there = omega (arith, inside);
          due = rw e (g.lead k m).0;
          clean = rw e (clear-before (lead_word gs l k) (g.lead k m).1).1;
          lower = rw e (g.earlier k m);
        }

    exits-good : (k : ℕ) → k < leads gs l → exits_verdict card (leads gs l) k (exits_at card l k) ≡ Ok tt
    unfolding exits_verdict exits
    exits-good k m =
        let e = exits-word a l h k m in
        let t = exits-told a l h k m in
        due-sound card (exits_at card l k) 4 (exits_tests (leads gs l) k (word card (exits_at card l k)) (exits_at card l k))
        (omega (arith, inside)) (rw e t.0) (
          agree (exits_spare (word card (exits_at card l k))) 0 (rw e t.1),
          (
            ap₂ ◌||◌ (ap (misplaced (leads gs l) k) (exit-is a l h k m 0 (omega arith)) ∙ exit-placed (function gs l) (leads gs l) k 0 (omega arith))
                (ap (misplaced (leads gs l) k) (exit-is a l h k m 1 (omega arith)) ∙ exit-placed (function gs l) (leads gs l) k 1 (omega arith)),
            tt,
          ),
        )

    -- node i names node i + 1
    names-next : (i : ℕ) → i + 1 < leads gs l → names card (card_length (up_to card l)) (suc i) i ≡ true
    unfolding exits
    names-next i m =
        let z : card_length (up_to card l) + 2 + 2 * i ≡ exits_at card l i = omega arith in
        let q : i + 3 ≡ suc i + 2 = omega arith in
        let next : gate_exit (function gs l) (leads gs l) i (1 - controlling (function gs l)) ≡ suc i + 2 = exit-next (function gs l) (leads gs l) i m ∙ q in
        rw z
        (one_of (exits card l i) (1 - controlling (function gs l)) (suc i + 2) (omega arith)
        (exit-is a l h i (omega arith) (1 - controlling (function gs l)) (omega arith) ∙ next))

    all_named : unnamed card (card_length (up_to card l)) (leads gs l) ≡ false
    unfolding unnamed
    all_named =
        some-none _ (leads gs l - 1) (λ i m.
        ap not (some-has (names card (card_length (up_to card l)) (suc i)) (leads gs l) i (omega arith) (names-next i (omega arith))))

    gate-output : Output card l
    unfolding leads
    gate-output =
        let s = size_is a l h in
        let f = fields a l h in
        record {
          few = omega (arith, a.few-lines);
          kinds = rw f.0 g.hidden-or-not;
          clean = f.1;
          some = rw s (gate-right (function gs l) (leads gs l) g.right).1;
          total = omega (arith, s, first-is a l (omega arith), lead-next gs l, lead-few a (suc l) h, a.few-leads);
          reading = λ k m. reads-good k (rw s at m);
          leaving = λ k m. rw s (exits-good k (rw s at m));
          named = rw s all_named;
        }

  -- EACH GRAPH IS
  input-graph : (l : ℕ) → l < c.graphs → input_line gs l ≡ true → graph_verdict card (up_to card l) ≡ Ok tt
  input-graph l h i =
      let (z, n) = a.input l h i in
      input-sound card l (omega (arith, a.few-lines)) (header_is a l h ∙ ap (λ (w : ℕ). header_word (kind w) (lead_count w)) z)
      (count_same (is_input card) (input_line gs) l (λ k m. (graph-of a k (omega arith)).input) ∙ n)

  graph-sound : (l : ℕ) → l < c.graphs → graph_verdict card (up_to card l) ≡ Ok tt
  graph-sound l h = by (input_line gs l) refl
    where
      by : (b : Bool) → input_line gs l ≡ b → graph_verdict card (up_to card l) ≡ Ok tt
      by true i = input-graph l h i
      by false i = output-sound card l (gate-output l h (a.gate l h i))

  -- the counts
  observable-are : count (observable card) c.graphs ≡ count (observable_line gs) c.graphs
  observable-are = count_same (observable card) (observable_line gs) c.graphs (λ l h. (graph-of a l h).seen)

  counts-are : up_to card c.graphs ≡ c
  counts-are =
      let i = count_same (is_input card) (input_line gs) c.graphs (λ l h. (graph-of a l h).input) in
      rw (i, first-is a c.graphs (omega arith), observable-are) (sym a.counted)

  pub drawn-accepted : checked card ≡ Ok c
  drawn-accepted =
      let n = first-is a c.graphs (omega arith) in
      sound-accepted card c.graphs (omega (arith, card-long a, n, a.leads-in))
      (omega (arith, observable-are, a.some-observable, ap (λ (d : Counts). d.observable) a.counted)) graph-sound
      a.few-lines (omega (arith, n, a.leads-in, a.few-leads))
      ∙ ap Ok counts-are

  -- and every read is direct; an input has none
  pub no-leads : (l : ℕ) → l < c.graphs → input_line gs l ≡ true → leads gs l ≡ 0
  unfolding leads
  no-leads l h i = ap lead_count (a.input l h i).0

  pub drawn-direct : Direct card c
  unfolding inverts
  drawn-direct l k h m = by (input_line gs l) refl
    where
      i : k < leads gs l
      i = rw (size_is a l h) at m

      by : (b : Bool) → input_line gs l ≡ b → inverts card l k ≡ false
      by true z = absurd (omega (arith, no-leads l h z, i))
      by false z = rw (read_word a l h k i, (clear-before (lead_word gs l k) ((a.gate l h z).lead k i).1).0)
