-- The cases of the text, and what the grading tells of it. Assumes nothing.
use Prim.Native.Nat.{ℕ, suc, zero, ◌+◌, ◌-◌, ◌*◌, ◌/◌, ◌%◌, ◌<◌, ◌≤◌}
use mathlib.Core.Path.{◌≡◌, refl, sym, ap, ap₂, ◌∙◌}
use mathlib.Core.List.{List}
use native.Mathlib.Omega.{arith}
use native.Mathlib.Decide.{dec_lt}
use lib.ListN.{length, get_or, take, drop, length-drop}
use lib.Seq.{get_or-take, length-take-le, take_all}
use borrow.Author.Tests.{lt-ltb, le-ltb, eq-eqb, ne_eqb}
use Rattle.lists.specs.Tables.{over}
use Rattle.lists.proofs.Tables.{over-at, over-front}
use Rattle.lists.proofs.Tests.{or-true}
use Rattle.word32.specs.Bytes.{word_at, words_of}
use Rattle.answers.specs.declared.Counts.{Counts}
use Rattle.std.specs.Prelude.{Ok, Err}
use Rattle.answers.specs.Answers.{Verdict, Answer}
use Rattle.answers.specs.declared.Refusal.{Refusal}
use Rattle.form.specs.Check.{checked}
use Rattle.answers.specs.Tests.{onward}
use Rattle.answers.specs.Calls.{whole, opened, Lent, lent}
use Rattle.answers.proofs.Calls.{opened-accepted}
use Rattle.cardtables.specs.Stems.{total}
use Rattle.testvectors.specs.Vectors.{list_verdict, lent_form}
use Rattle.opening.specs.Opened.{opened_list}
use Rattle.detect.specs.Grading.{mark, tally, marked}
use Rattle.grade.specs.Graded.{GradedList}
use Rattle.textlines.specs.Text.{short_line, long_line, refused_line, fault_lines, grading_text}
use Rattle.report.specs.Report.{refusal_text, unless_broken, if_accepted, graded_text, word_count, card_bytes, vector_bytes, text_of, bytes_wanted}

-- THE TEXT by its cases
module _ (b : List ℕ) where
  pub text-none : length b < 4 → text_of b ≡ short_line
  unfolding text_of
  text-none h = rw (lt-ltb _ _ h)

  module _ (h : 4 ≤ length b) where
    pub text-over : 9216 < word_count b → text_of b ≡ refused_line 1 0
    unfolding text_of
    text-over l = rw (le-ltb _ _ h, lt-ltb _ _ l)

    module _ (few : word_count b ≤ 9216) where
      pub text-cut : length b < 4 + 4 * word_count b → text_of b ≡ short_line
      unfolding text_of
      text-cut l = rw (le-ltb _ _ h, le-ltb _ _ few, lt-ltb _ _ l)

      module _ (whole : 4 + 4 * word_count b ≤ length b) where
        pub text-long : 16384 < (length b - (4 + 4 * word_count b)) / 4 → text_of b ≡ long_line
        unfolding text_of
        text-long l = rw (le-ltb _ _ h, le-ltb _ _ few, le-ltb _ _ whole, length-drop (4 + 4 * word_count b) b, lt-ltb _ _ l)

        module _ (room : (length b - (4 + 4 * word_count b)) / 4 ≤ 16384) where
          pub text-left : ((length b - (4 + 4 * word_count b)) % 4 ≡ 0 → ⊥) → text_of b ≡ short_line
          unfolding text_of
          text-left l = simp (le-ltb _ _ h, le-ltb _ _ few, le-ltb _ _ whole, length-drop (4 + 4 * word_count b) b, le-ltb _ _ room, ne_eqb _ _ l)

          pub text-graded : (length b - (4 + 4 * word_count b)) % 4 ≡ 0 → text_of b ≡ graded_text (words_of (card_bytes b)) (words_of (vector_bytes b))
          unfolding text_of
          text-graded l = simp (le-ltb _ _ h, le-ltb _ _ few, le-ltb _ _ whole, length-drop (4 + 4 * word_count b) b, le-ltb _ _ room, eq-eqb _ _ l)

-- how many bytes decide
module _ (b : List ℕ) where
  pub wanted-none : length b < 4 → bytes_wanted b ≡ 4
  unfolding bytes_wanted
  wanted-none h = rw (lt-ltb _ _ h)

  pub wanted-over : 9216 < word_count b → bytes_wanted b ≡ 4
  unfolding bytes_wanted
  wanted-over l = rw (lt-ltb _ _ l, or-true)

  pub wanted-all : 4 ≤ length b → word_count b ≤ 9216 → bytes_wanted b ≡ 4 + 4 * word_count b + 65540
  unfolding bytes_wanted
  wanted-all h l = rw (le-ltb _ _ h, le-ltb _ _ l)

  front-count : (n : ℕ) → 4 ≤ n → word_count (take n b) ≡ word_count b
  unfolding word_at
  front-count n h = simp (get_or-take n b 0 0 (omega arith), get_or-take n b 1 0 (omega arith), get_or-take n b 2 0 (omega arith), get_or-take n b 3 0 (omega arith))

  -- the first four bytes tell it
  wanted-front : bytes_wanted (take 4 b) ≡ bytes_wanted b
  unfolding bytes_wanted
  wanted-front = elim (dec_lt (length b) 4) [
    | yes s ↦ ap bytes_wanted (take_all 4 b (omega arith))
    | no t ↦ rw (front-count 4 (omega arith), length-take-le 4 b (omega arith), le-ltb (length b) 4 (omega arith))
  ]

  front-text : (n : ℕ) → bytes_wanted b ≤ n → text_of (take n b) ≡ text_of b
  front-text n w = elim (dec_lt n (length b)) [
    | no m ↦ ap text_of (take_all n b (omega arith))
    | yes l ↦ let e : length (take n b) ≡ n = length-take-le n b (omega arith) in elim (dec_lt (length b) 4) [
      | yes s ↦ absurd (omega (arith, wanted-none s))
      | no t ↦ let h : 4 ≤ length b = omega arith in elim (dec_lt 9216 (word_count b)) [
        | yes o ↦
            let q = front-count n (omega (arith, wanted-over o)) in
            text-over (take n b) (omega (arith, wanted-over o)) (rw q o) ∙ sym (text-over b h o)
        | no p ↦
            let few : word_count b ≤ 9216 = omega arith in
            let a = wanted-all h few in
            let q = front-count n (omega arith) in
            text-long (take n b) (omega arith) (rw q few) (rw q (omega arith)) (rw (q, e) (omega arith))
            ∙ sym (text-long b h few (omega arith) (omega arith))
      ]
    ]
  ]

  -- THE BYTES THAT DECIDE: the text of those that the first four make wanted is the text of all
  pub text-front : text_of (take (bytes_wanted (take 4 b)) b) ≡ text_of b
  text-front = front-text (bytes_wanted (take 4 b)) (omega (arith, wanted-front))

-- the refusal of the card or of the list, whose bytes are whole words, and the grading
module _ (ws bs : List ℕ) (h : length bs % 4 ≡ 0) where
  abbrev pub list_in_bytes : Lent
  list_in_bytes = lent (words_of bs) (length bs % 4)

  opened-words : opened_list (whole ws) list_in_bytes ≡ opened (checked ws) (λ c. list_verdict c.inputs (words_of bs))
  unfolding lent_form
  opened-words =
      let same : list_in_bytes ≡ whole (words_of bs) = rw h in
      ap (opened_list (whole ws)) same

  pub graded-refused : {r : Refusal} → opened_list (whole ws) list_in_bytes ≡ Err r → graded_text ws (words_of bs) ≡ refusal_text r
  unfolding graded_text
  graded-refused {r} e = of (checked ws) _ (sym opened-words ∙ e)
    where
      list : (v : Verdict) (c : Counts) (text : List ℕ) → onward v (Ok c) ≡ Err r → unless_broken v text ≡ refusal_text r
      list (Ok tt) c text z = let f : ◌≡◌ {A = ℕ} 0 1 = cc in absurd (omega arith)
      list (Err r') c text z = let f : r' ≡ r = cc in rw f

      of : (a : Answer) (text : Counts → List ℕ) → opened a (λ c. list_verdict c.inputs (words_of bs)) ≡ Err r
          → if_accepted a (λ c. unless_broken (list_verdict c.inputs (words_of bs)) (text c)) ≡ refusal_text r
      of (Ok c) text z = list (list_verdict c.inputs (words_of bs)) c (text c) z
      of (Err r') text z = let f : r' ≡ r = cc in rw f

  pub graded-done : {c : Counts} → opened_list (whole ws) list_in_bytes ≡ Ok c → graded_text ws (words_of bs)
      ≡ grading_text c (mark ws c (words_of bs)) (tally ws c (words_of bs)) (marked ws c (words_of bs)) (total ws c)
  unfolding graded_text
  graded-done e =
      let (a, s) = opened-accepted (checked ws) (λ c. list_verdict c.inputs (words_of bs)) (sym opened-words ∙ e) in
      rw (a, s)

-- marks and tallies that agree make one text
lines_same : (m m' t t' : ℕ → ℕ) (n : ℕ) → ((f : ℕ) → f < n → m f ≡ m' f)
    → ((f : ℕ) → f < n → t f ≡ t' f) → fault_lines m t n ≡ fault_lines m' t' n
unfolding fault_lines
lines_same m m' t t' zero p q = refl
lines_same m m' t t' (suc n) p q =
    rw (lines_same m m' t t' n (λ f l. p f (omega arith)) (λ f l. q f (omega arith)), p n (omega arith), q n (omega arith))

pub grading-same : (c : Counts) (m m' t t' : ℕ → ℕ) (n k : ℕ) → ((f : ℕ) → f < c.faults → m f ≡ m' f) → ((f : ℕ) → f < c.faults → t f ≡ t' f)
    → grading_text c m t n k ≡ grading_text c m' t' n k
unfolding grading_text
grading-same c m m' t t' n k p q = rw (lines_same m m' t t' c.faults p q)

-- one fault more
-- the text of a grading, from what it leaves in the buffers
pub grading-told : {ws xs : List ℕ} {c : Counts} {b d ms ts : List ℕ} {n k : ℕ} → GradedList ws c xs n b d ms ts → k ≡ total ws c
    → grading_text c (λ f. get_or ms f 0) (λ f. get_or ts f 0) n k ≡ grading_text c (mark ws c xs) (tally ws c xs) (marked ws c xs) (total ws c)
grading-told {ws} {xs} {c} {b} {d} {ms} {ts} g z =
    rw (g.number, z) (grading-same c (λ f. get_or ms f 0) (mark ws c xs) (λ f. get_or ts f 0) (tally ws c xs) _ _
    (λ f l. rw g.marks-put (over-at (mark ws c xs) b c.faults f l))
    (λ f l. rw g.tallies-put (over-at (tally ws c xs) d c.faults f l)))

-- the words of some bytes, as a buffer's front
pub words-front : (b d out : List ℕ) (n : ℕ) → n ≡ length b / 4 → out ≡ over (length b / 4) (word_at b) d → take n out ≡ words_of b
words-front b d out n e o = rw (e, o) (over-front (word_at b) d (length b / 4))

-- the parts of the bytes, as slices of them
module _ (b : List ℕ) (n : ℕ) (e : n ≡ word_count b) where
  pub card-part : take (4 + 4 * n - 4) (drop 4 b) ≡ card_bytes b
  card-part = let z : 4 + 4 * n - 4 ≡ 4 * n = omega arith in rw (z, e)

  pub vector-part : take (length b - (4 + 4 * n)) (drop (4 + 4 * n) b) ≡ vector_bytes b
  vector-part = rw e (take_all (length b - (4 + 4 * word_count b)) (vector_bytes b) (rw (length-drop (4 + 4 * word_count b) b) (omega arith)))

  pub text-parts : 4 ≤ length b → n ≤ 9216 → 4 + 4 * n ≤ length b → (length b - (4 + 4 * n)) / 4 ≤ 16384 → (length b - (4 + 4 * n)) % 4 ≡ 0
      → text_of b ≡ graded_text (words_of (take (4 + 4 * n - 4) (drop 4 b))) (words_of (take (length b - (4 + 4 * n)) (drop (4 + 4 * n) b)))
  text-parts h few whole room l =
      text-graded b h (rw e at few) (rw e at whole) (rw e at room) (rw e at l)
      ∙ ap₂ (λ (x y : List ℕ). graded_text (words_of x) (words_of y)) (sym card-part) (sym vector-part)
