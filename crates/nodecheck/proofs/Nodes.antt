-- Where the loop over a graph's nodes stands, and what a turn makes of it. The header stands at h, and the graph is graph g, of n nodes.
-- The invariant: the verdict on the nodes from k on is the verdict on all, the reader stands at node k's read, and the table has what the exits of
-- the nodes before name. Assumes nothing.
use Prim.Native.Nat.{ℕ, ◌+◌, ◌-◌, ◌*◌, ◌<◌, ◌≤◌}
use mathlib.Core.Path.{◌≡◌, refl, sym, ap, ◌∙◌, subst}
use mathlib.Core.List.{List}
use native.Mathlib.Nat.{sub-zero}
use native.Mathlib.Numerals.{add-one}
use native.Mathlib.Omega.{arith}
use lib.ListN.{length}
use Rattle.reader.specs.Due.{Due, due_at, after_at}
use Rattle.reader.proofs.Laws.{after-word}
use Rattle.answers.specs.declared.Refusal.{Refusal}
use Rattle.std.specs.Prelude.{Ok, Err}
use Rattle.answers.specs.Answers.{Verdict}
use Rattle.answers.proofs.Tests.{not_sound}
use Rattle.form.specs.Check.{read_verdict, exits_verdict, nodes_verdict}
use Rattle.form.proofs.Verdicts.{read_told, exits-sound, exits-inside}
use Rattle.nodecheck.specs.Table.{ReadTold, Blank, Names, ExitsTold, NodesTold}
use Rattle.nodecheck.proofs.Table.{names-none, names_more, names-length}
use Rattle.nodecheck.proofs.Turns.{nodes-end, read-stops, exits-stop, nodes-go}

-- where the loop stands: k nodes are done, the reader is at p, and the table is tb
pub record Going (ws : List ℕ) (h g n k p : ℕ) (tb : List ℕ) : Type 0 where
  pub within : k ≤ n
  pub at : p ≡ h + 1 + 2 * k
  pub len : length tb ≡ 4096
  pub names : Names ws h n k tb
  pub same : nodes_verdict ws g h n (n - k) k ≡ nodes_verdict ws g h n n 0

module _ (ws : List ℕ) (h g n : ℕ) (few : n ≤ 4096) where
  pub begin : (at : ℕ) (t : List ℕ) → at ≡ h + 1 → Blank t → Going ws h g n 0 at t
  begin at t e blank = record {
    within = omega arith;
    at = omega (arith, e);
    len = blank.long;
    names = names-none ws h n t blank;
    same = ap (λ (m : ℕ). nodes_verdict ws g h n m 0) (sub-zero n);
  }

  broken : (r : Refusal) (m : ℕ) (zs : List ℕ) → Err r ≡ nodes_verdict ws g h n n 0 → NodesTold ws h g n zs m (Err r)
  broken r m zs e = record { verdict = e; names = λ z. absurd (not_sound r z); next = λ z. absurd (not_sound r z) }

  pub finished : {k p : ℕ} {tb : List ℕ} (i : Going ws h g n k p tb) → n ≤ k → NodesTold ws h g n tb p (Ok tt)
  finished {k = k} {tb = tb} i l =
      let e : k ≡ n = omega (arith, l, i.within) in
      record {
        verdict = sym (nodes-end ws g h n k l) ∙ i.same;
        names = λ z. subst (λ (m : ℕ). Names ws h n m tb) e i.names;
        next = λ z. omega (arith, i.at, e);
      }

  -- node k's read was told v
  module _ {k p : ℕ} {tb : List ℕ} (i : Going ws h g n k p tb) (less : k < n) (a : Due) (ea : a ≡ due_at ws p) where
    pub read_is : (v : Verdict) → ReadTold a g v → v ≡ read_verdict ws g (h + 1 + 2 * k)
    read_is v told = told ws p ea ∙ ap (read_verdict ws g) i.at

    pub bad-read : (r : Refusal) (m : ℕ) (zs : List ℕ) → ReadTold a g (Err r) → NodesTold ws h g n zs m (Err r)
    bad-read r m zs told = broken r m zs (sym (read-stops ws g h n k less r (sym (read_is (Err r) told))) ∙ i.same)

    -- the read is sound: its exits stand at the next place
    module _ (told : ReadTold a g (Ok tt)) where
      pub on : after_at ws p ≡ h + 2 + 2 * k
      on =
          let there : p < length ws = (read_told ws g p (sym (told ws p ea))).there in
          after-word ws p there ∙ omega (arith, i.at)

      module _ (d : Due) (ed : d ≡ due_at ws (after_at ws p)) (v : Verdict) (zs : List ℕ) (et : ExitsTold d n k tb zs v) where
        exits-is : v ≡ exits_verdict ws n k (h + 2 + 2 * k)
        exits-is = et.verdict ws (after_at ws p) ed ∙ ap (exits_verdict ws n k) on

      pub bad-exits : (d : Due) → d ≡ due_at ws (after_at ws p) → (r : Refusal) (m : ℕ) (zs : List ℕ) → ExitsTold d n k tb zs
          (Err r) → NodesTold ws h g n zs m (Err r)
      bad-exits d ed r m zs et = broken r m zs (sym (exits-stop ws g h n k less (sym (read_is (Ok tt) told)) r
          (sym (exits-is d ed (Err r) zs et))) ∙ i.same)

      module _ (d : Due) (ed : d ≡ due_at ws (after_at ws p)) (zs : List ℕ) (et : ExitsTold d n k tb zs (Ok tt)) where
        pub good : exits_verdict ws n k (h + 2 + 2 * k) ≡ Ok tt
        good = sym (exits-is d ed (Ok tt) zs et)

        pub named_by : (m : ℕ) → m ≡ h + 2 + 2 * k → d ≡ due_at ws m → (length zs ≡ length tb) × Names ws h n (k + 1) zs
        named_by m em e =
            let z = et.table ws (h + 2 + 2 * k) (e ∙ ap (due_at ws) em) refl in (
              rw z (names-length ws h k tb),
              rw (z, add-one) (names_more ws h n k tb (omega (arith, few, i.len)) (exits-inside ws n k (h + 2 + 2 * k) 0 good)
                  (exits-inside ws n k (h + 2 + 2 * k) 1 good) i.names),
            )

        abbrev pub two-on : ℕ
        two-on = after_at ws (after_at ws p)

        pub there-too : two-on ≡ h + 1 + 2 * (k + 1)
        there-too =
            let l : after_at ws p < length ws = subst (λ (m : ℕ). m < length ws) (sym on) (exits-sound ws n k (h + 2 + 2 * k) good).0 in
            after-word ws (after_at ws p) l ∙ omega (arith, on)

        pub onward : Going ws h g n (k + 1) two-on zs
        onward = record {
          within = omega (arith, less);
          at = there-too;
          len = (named_by (after_at ws p) on ed).0 ∙ i.len;
          names = (named_by (after_at ws p) on ed).1;
          same = sym (nodes-go ws g h n k less (sym (read_is (Ok tt) told)) good) ∙ i.same;
        }

        pub nearer : n - (k + 1) < n - k
        nearer = omega (arith, less)
