-- A list of vectors lent by words or in bytes, and the form of what is lent. Assumes nothing.
use Prim.Native.Nat.{ℕ, ◌/◌, ◌<◌, ◌≤◌}
use mathlib.Core.Path.{◌≡◌, sym}
use mathlib.Core.List.{List}
use native.Mathlib.Omega.{arith}
use lib.ListN.{length, get_or}
use borrow.Author.Tests.{lt-ltb, le-ltb}
use Rattle.lists.proofs.Tables.{length-tab, tab-at}
use Rattle.word32.specs.Bytes.{word_at, words_of}
use Rattle.answers.specs.declared.Rule.TheVariants.{VectorForm}
use Rattle.std.specs.Prelude.{Err}
use Rattle.answers.specs.Answers.{Verdict, refused}
use Rattle.answers.specs.Calls.{Lent}
use Rattle.testvectors.specs.Vectors.{lent_form}

-- the length of a list in bytes, and a word of it
module _ (bs : List ℕ) where
  pub bytes-long : length (words_of bs) ≡ length bs / 4
  bytes-long = length-tab (word_at bs) (length bs / 4)

  pub bytes-at : (p : ℕ) → p < length (words_of bs) → word_at bs p ≡ get_or (words_of bs) p 0
  bytes-at p h = sym (tab-at (word_at bs) (length bs / 4) p (omega (arith, bytes-long)))

-- the form: with bytes left over, and of whole words
module _ (verdict : ℕ → List ℕ → Verdict) (m : ℕ) (v : Lent) where
  pub form-extra : 0 < v.extra → Err (refused VectorForm 0) ≡ lent_form verdict m v
  unfolding lent_form
  form-extra h = rw (lt-ltb _ _ h)

  pub form-whole : v.extra ≤ 0 → verdict m v.words ≡ lent_form verdict m v
  unfolding lent_form
  form-whole h = rw (le-ltb _ _ h)
