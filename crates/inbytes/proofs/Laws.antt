-- What is read of bytes, a host's call by the end of its worker, and words written as bytes. Assumes nothing.
use Prim.Native.Nat.{ℕ, ◌-◌, ◌*◌, ◌/◌, ◌<◌, ◌≤◌, min}
use mathlib.Core.Path.{◌≡◌, refl, sym, ap, ◌∙◌}
use mathlib.Core.List.{List, []}
use native.Mathlib.Omega.{arith}
use native.Mathlib.Decide.{dec_le}
use lib.ListN.{length, take}
use lib.Seq.{take_all}
use Rattle.lists.specs.Tables.{over}
use Rattle.lists.proofs.Tables.{length-tab, length_over, over_none}
use Rattle.word32.specs.Bytes.{word_at, words_of, byte_of}
use Rattle.word32.proofs.Parts.{part-number, part-front}
use Rattle.answers.specs.declared.Counts.{Counts}
use Rattle.std.specs.Prelude.{Ok, Err}
use Rattle.answers.specs.Answers.{broken_rule, Reply}
use Rattle.answers.specs.Calls.{Lent, Outcome, Work, outcome}
use Rattle.answers.specs.declared.Ending.{Ending}
use Rattle.answers.specs.Ends.{Filled, EndsAs, EndsBoth, clip}
use Rattle.answers.proofs.Answers.{number-some}
use Rattle.answers.proofs.Ends.{filled-front}
use Rattle.form.specs.Check.{lent_check}
use Rattle.form.proofs.Clip.{check-clip}
use Rattle.opening.specs.Opened.{opened_vector, opened_list}
use Rattle.opening.proofs.Laws.{vector-call-clip, list-call-clip}
use Rattle.inbytes.specs.Calls.{of_bytes, room, host_answer, as_bytes, InBytes, InBytesBoth}
use Rattle.inbytes.specs.Read.{WordsRead}

-- a number below 2 ^ 32 is no refusal: the host knows from it that the call is done
pub number-done : (r : Reply) → host_answer r < 4294967296 → r ≡ Ok (host_answer r)
number-done (Ok n) h = refl
number-done (Err r) h = absurd (omega (arith, number-some (broken_rule r)))

-- words written as bytes, and no words
pub bytes_left : (ws ws' b left : List ℕ) → ws' ≡ ws → left ≡ over (length ws' * 4) (byte_of ws') b → left ≡ as_bytes ws b
unfolding as_bytes
bytes_left ws ws' b left e h = rw (← e) h

pub bytes-none : (b : List ℕ) → as_bytes [] b ≡ b
unfolding as_bytes
bytes-none b = over_none (byte_of []) b

-- what was read: the words of the bytes that fit
pub words-read : (b d : List ℕ) (n : ℕ) {part out : List ℕ} {r : ℕ} → n ≡ min (length b / 4) (length d) → part ≡ take (n * 4) b
    → r ≡ length part / 4 → out ≡ over (length part / 4) (word_at part) d → WordsRead b (length d) r out
words-read b d n {part} {out} {r} e p y q =
    let l : n ≤ length b / 4 = omega arith in
    let z : n * 4 ≡ n * 4 - 0 = omega arith in
    let at = p ∙ ap (λ (k : ℕ). take k b) z in
    let f = part-front b part 0 n (omega arith) l at d y q in
    let k = part-number b part 0 n (omega arith) l at in
    record { fits = omega (arith, ap length q, length_over (word_at part) d (length part / 4) (omega arith)); front = f ∙ go }
  where
    go : take (n - 0) (words_of b) ≡ take (length d) (words_of b)
    go = elim (dec_le (length b / 4) (length d)) [
      | yes h ↦
          let m = length-tab (word_at b) (length b / 4) in
          take_all (n - 0) (words_of b) (omega arith) ∙ sym (take_all (length d) (words_of b) (omega arith))
      | no h ↦
          let z : n - 0 ≡ length d = omega arith in
          ap (λ (k : ℕ). take k (words_of b)) z
    ]

-- a call over the words that were read is the call over what is lent: of a card, of a card and a vector, and of a card and a list, which is read in place
pub check-read : (b : List ℕ) {w : Lent} {l : ℕ} → 9217 ≡ l → w ≡ clip l (of_bytes b) → (f : Counts → Work) → outcome (lent_check w) f ≡ outcome (lent_check (of_bytes b)) f
check-read b e q f = rw (q, ← e, check-clip (of_bytes b))

pub vector-read : (b v : List ℕ) {w x : Lent} {l m : ℕ} → 9217 ≡ l → 65 ≡ m → w ≡ clip l (of_bytes b) → x ≡ clip m (of_bytes v) → (F : List ℕ → List ℕ → Counts → Work)
    → outcome (opened_vector w x) (F w.words x.words) ≡ outcome (opened_vector (of_bytes b) (of_bytes v)) (F (words_of b) (words_of v))
vector-read b v e i q r F = rw (q, r, ← e, ← i) (vector-call-clip (of_bytes b) (of_bytes v) F)

pub list_read : (b v : List ℕ) {w : Lent} {l : ℕ} → 9217 ≡ l → w ≡ clip l (of_bytes b) → (F : List ℕ → List ℕ → Counts → Work)
    → outcome (opened_list w (of_bytes v)) (F w.words (words_of v)) ≡ outcome (opened_list (of_bytes b) (of_bytes v)) (F (words_of b) (words_of v))
list_read b v e q F = rw (q, ← e) (list-call-clip (of_bytes b) (of_bytes v) (λ ws. F ws (words_of v)))

-- the host's answer is the outcome's, where the worker's outcome is that of the call
left-bytes : {ws ws' before out left : List ℕ} {room n : ℕ} (b : List ℕ) → Filled ws room n before out → ws ≡ ws' → left ≡ as_bytes (take n out) b → left ≡ as_bytes ws' b
left-bytes b w i q = q ∙ ap (λ (l : List ℕ). as_bytes l b) (filled-front w ∙ i)

pub in_bytes : (call : ℕ → Outcome) {o : Outcome} {n : ℕ} {r : Ending} {before out left : List ℕ} (b : List ℕ) → EndsAs o (room b) r before out → o ≡ call (room b)
    → (n ≡ host_answer r.reply) × (left ≡ as_bytes (take r.words out) b) → InBytes call n b left
in_bytes call b e i (h, q) = (h ∙ ap host_answer (e.reply ∙ ap (λ (o : Outcome). o.reply) i), left-bytes b e.filled (ap (λ (o : Outcome). o.words) i) q)

pub in-bytes-both : (call : ℕ → ℕ → Outcome) {o : Outcome} {n : ℕ} {r : Ending} {before out left before' out' left' : List ℕ} (b d : List ℕ)
    → EndsBoth o (room b) (room d) r before before' out out' → o ≡ call (room b) (room d)
    → (n ≡ host_answer r.reply) × (left ≡ as_bytes (take r.words out) b) × (left' ≡ as_bytes (take r.more out') d) → InBytesBoth call n b d left left'
in-bytes-both call b d e i (h, q, q') = (
  h ∙ ap host_answer (e.first.reply ∙ ap (λ (o : Outcome). o.reply) i),
  left-bytes b e.first.filled (ap (λ (o : Outcome). o.words) i) q,
  left-bytes d e.second (ap (λ (o : Outcome). o.more) i) q',
)
