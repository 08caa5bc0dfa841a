-- A card whose words are written in another's: its outputs stand there, sound, in their order. One law for both cards. Assumes nothing.
use Prim.Native.Nat.{ℕ, zero, suc, ◌+◌, ◌-◌, ◌*◌, ◌^◌, ◌<◌, ◌≤◌}
use mathlib.Core.Path.{◌≡◌, refl, ap, ◌∙◌}
use mathlib.Core.List.{List}
use native.Mathlib.Omega.{arith}
use native.Mathlib.Nat.{add-zero, add-suc}
use lib.ListN.{length}
use lib.Dec.{eqb}
use Rattle.word32.specs.Fields.{kind, node_count, read_graph, exit_of}
use Rattle.answers.specs.declared.Counts.{Counts}
use Rattle.std.specs.Prelude.{Ok}
use Rattle.layout.specs.Layout.{first, header, is_input, observable, size, reads, exits, decided, decides}
use Rattle.layout.specs.Shape.{Accepts}
use Rattle.layout.proofs.Firsts.{first_next, first-few, header-inside}
use Rattle.form.specs.Check.{word, exits_verdict, checked}
use Rattle.form.proofs.Checked.{check-accepts}
use Rattle.form.proofs.Verdicts.{Read, exits-told}
use Rattle.form.proofs.Graphs.{Output, read_place, exits_at, exits-same, unnamed-same, accepted-output}
use Rattle.wiring.specs.Joined.{moved}
use Rattle.wiring.proofs.Stands.{Stands}
use Rattle.wiring.proofs.Words.{moved_other, moved-decided, moved-kind, moved-spare, moved-read}

-- BY WORDS: the words of the outputs of the accepted card ws, counted by c, are written in js, moved. They are graphs `start` and on there, after
-- `before` nodes, and a graph below an output has a lower number. (`PartOf` is what follows of its graphs.)
pub record WrittenIn (ws js : List ℕ) (c : Counts) (number : ℕ → ℕ) (start before : ℕ) : Type 0 where
  pub accepted : checked ws ≡ Ok c
  pub numbered : (g : ℕ) → c.inputs ≤ g → number g ≡ start + (g - c.inputs)
  pub lower : (r g : ℕ) → c.inputs ≤ g → r < g → number r < number g
  pub few-graphs : start + (c.graphs - c.inputs) ≤ 1024
  pub few-nodes : before + c.nodes ≤ 4096
  pub inside : start + 2 * before + (length ws - c.inputs) ≤ length js
  pub words : (i : ℕ) → c.inputs + i < length ws → word js (start + 2 * before + i) ≡ moved number (word ws (c.inputs + i))
  pub begins : first js start ≡ before

module _ {ws js : List ℕ} {c : Counts} {number : ℕ → ℕ} {start before : ℕ} (W : WrittenIn ws js c number start before) where
  abbrev accepts : Accepts ws c
  accepts = check-accepts ws 0 c W.accepted

  -- output i of it is graph start + i
  pub numbered-on : (i : ℕ) → number (c.inputs + i) ≡ start + i
  numbered-on i = W.numbered (c.inputs + i) (omega arith) ∙ omega arith

  -- a word at p of it is at q
  moved_word : (p q : ℕ) → c.inputs ≤ p → p < length ws → q + c.inputs ≡ start + 2 * before + p → word js q ≡ moved number (word ws p)
  moved_word p q m l e =
      let z : start + 2 * before + (p - c.inputs) ≡ q = omega arith in
      let y : c.inputs + (p - c.inputs) ≡ p = omega arith in
      rw (z, y) at (W.words (p - c.inputs) (omega arith))

  -- its inputs have no nodes
  no-nodes : (g : ℕ) → g ≤ c.inputs → first ws g ≡ 0
  unfolding first
  no-nodes zero l = refl
  no-nodes (suc g) l = first_next ws g ∙ rw (no-nodes g (omega arith), (accepts.shape.input g (omega arith)).1)

  -- Graph g, an output.
  module _ (g : ℕ) (m : c.inputs ≤ g) (l : g < c.graphs) where
    abbrev o : Output ws g
    o = accepted-output W.accepted g m l

    number_is : number g + c.inputs ≡ start + g
    number_is = omega (arith, W.numbered g m)

    header-moved : first js (number g) ≡ before + first ws g → header js (number g) ≡ header ws g
    header-moved e =
        moved_word (g + 2 * first ws g) (number g + 2 * first js (number g)) (omega arith)
        (header-inside accepts.shape g l) (omega (arith, number_is))
        ∙ moved_other number (header ws g) (λ z. omega (arith, o.kinds))

    size-moved : first js (number g) ≡ before + first ws g → size js (number g) ≡ size ws g
    unfolding size
    size-moved e = ap node_count (header-moved e)

  -- where its nodes begin
  first-moved : (i : ℕ) → c.inputs + i ≤ c.graphs → first js (start + i) ≡ before + first ws (c.inputs + i)
  first-moved zero l = rw (add-zero start, add-zero c.inputs) (omega (arith, W.begins, no-nodes c.inputs (omega arith)))
  first-moved (suc i) l =
      let g = c.inputs + i in
      let e : first js (start + i) ≡ before + first ws g = first-moved i (omega arith) in
      let s = rw (numbered-on i) at (size-moved g (omega arith) (omega arith) (rw (numbered-on i) e)) in
      rw (add-suc start i, add-suc c.inputs i) (omega (arith, first_next js (start + i), first_next ws g))

  pub written-ends : first js (start + (c.graphs - c.inputs)) ≡ before + c.nodes
  written-ends =
      let e : c.inputs + (c.graphs - c.inputs) ≡ c.graphs = omega (arith, accepts.shape.inputs_in) in
      rw (e, accepts.shape.nodes-in) at (first-moved (c.graphs - c.inputs) (omega (arith, accepts.shape.inputs_in)))

  module _ (g : ℕ) (m : c.inputs ≤ g) (l : g < c.graphs) where
    first-is : first js (number g) ≡ before + first ws g
    first-is =
        let e : c.inputs + (g - c.inputs) ≡ g = omega arith in
        rw (W.numbered g m) (rw e at (first-moved (g - c.inputs) (omega arith)))

    header_is : header js (number g) ≡ header ws g
    header_is = header-moved g m l first-is

    size_is : size js (number g) ≡ size ws g
    size_is = size-moved g m l first-is

    fits : g + 1 + 2 * (first ws g + size ws g) ≤ length ws
    fits = omega (arith, first_next ws g, first-few accepts.shape (suc g) l, accepts.shape.fits)

    -- the words of its local node k
    module _ (k : ℕ) (h : k < size ws g) where
      abbrev r : Read ws g (read_place ws g k)
      r = (o g m l).reading k h

      read_word : word js (read_place js (number g) k) ≡ moved number (word ws (read_place ws g k))
      read_word = moved_word (read_place ws g k) (read_place js (number g) k) (omega arith) r.there (omega (arith, number_is g m l, first-is))

      exits-word : word js (exits_at js (number g) k) ≡ word ws (exits_at ws g k)
      exits-word =
          let (i, (z, t)) = exits-told ws (size ws g) k (exits_at ws g k) ((o g m l).leaving k h) in
          moved_word (exits_at ws g k) (exits_at js (number g) k) (omega arith) i (omega (arith, number_is g m l, first-is))
          ∙ moved_other number (word ws (exits_at ws g k)) (λ y. omega arith)

      -- the graph that it reads
      read_below : number (read_graph (word ws (read_place ws g k))) < number g
      read_below = W.lower (read_graph (word ws (read_place ws g k))) g m r.lower

      number-few : number g < 1024
      number-few = omega (arith, number_is g m l, W.few-graphs)

      read-few : number (read_graph (word ws (read_place ws g k))) < 2 ^ 16
      read-few = omega (arith, read_below, number-few)

      read_is : read_graph (word js (read_place js (number g) k)) ≡ number (read_graph (word ws (read_place ws g k)))
      read_is = ap read_graph read_word ∙ moved-read number (word ws (read_place ws g k)) r.due read-few

      read-good : Read js (number g) (read_place js (number g) k)
      read-good = record {
        there = omega (arith, number_is g m l, first-is, fits, W.inside);
        due = rw read_word (moved-kind number (word ws (read_place ws g k)) r.due read-few);
        clean = rw read_word (moved-spare number (word ws (read_place ws g k)) r.due read-few ∙ r.clean);
        lower = rw read_is read_below;
      }

      exits-good : exits_verdict js (size ws g) k (exits_at js (number g) k) ≡ Ok tt
      exits-good =
          exits-same ws js (size ws g) k (exits_at ws g k) (exits_at js (number g) k) ((o g m l).leaving k h)
          (omega (arith, number_is g m l, first-is, fits, W.inside)) exits-word

    -- THE GRAPH STANDS in the joined card
    pub written_stands : Stands ws js number before g
    unfolding is_input observable reads exits decides
    written_stands = record {
      output = ap (λ (w : ℕ). eqb (kind w) 0) header_is ∙ (accepts.shape.output g l m).0;
      seen = ap (λ (w : ℕ). eqb (kind w) 2) header_is;
      many = size_is;
      start = first-is;
      read = read_is;
      exit = λ k d h. ap (λ (w : ℕ). exit_of w d) (exits-word k h);
      decide = λ k v h. ap (λ (w : ℕ). decided w v) (read_word k h) ∙ moved-decided number (word ws (read_place ws g k)) (r k h).due (read-few k h) v;
    }

    -- and is sound there
    pub written-output : Output js (number g)
    written-output = record {
      few = number-few 0 (o g m l).some;
      kinds = rw header_is (o g m l).kinds;
      clean = rw header_is (o g m l).clean;
      some = rw size_is (o g m l).some;
      total = omega (arith, size_is, first-is, first_next ws g, first-few accepts.shape (suc g) l, W.few-nodes);
      reading = λ k h. read-good k (rw size_is at h);
      leaving = λ k h. rw size_is (exits-good k (rw size_is at h));
      named = rw size_is (unnamed-same ws js g (number g) (size ws g) exits-word ∙ (o g m l).named);
    }
