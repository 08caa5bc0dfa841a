-- Words held in bytes, highest byte first. Assumes nothing.
use Rattle.std.specs.Prelude.{ℕ, ◌+◌, ◌-◌, ◌*◌, ◌/◌, ◌%◌, ◌^◌, List, length, get_or, set}
use Rattle.lists.specs.Tables.{tab}

-- word i of the bytes b
unfoldable pub word_at : List ℕ → ℕ → ℕ
word_at b i =
    get_or b (i * 4) 0 * 2 ^ 24 + get_or b (i * 4 + 1) 0 * 2 ^ 16 + get_or b (i * 4 + 2) 0 * 2 ^ 8 + get_or b (i * 4 + 3) 0

-- the whole words that the bytes b hold
abbrev pub words_of : List ℕ → List ℕ
words_of b = tab (word_at b) (length b / 4)

-- the bytes b with w for word i
unfoldable pub set_word : List ℕ → ℕ → ℕ → List ℕ
set_word b i w =
    set (set (set (set b (i * 4) (w / 2 ^ 24)) (i * 4 + 1) (w / 2 ^ 16 % 2 ^ 8)) (i * 4 + 2) (w / 2 ^ 8 % 2 ^ 8))
    (i * 4 + 3) (w % 2 ^ 8)

-- byte j of the words ws
unfoldable pub byte_of : List ℕ → ℕ → ℕ
byte_of ws j = get_or ws (j / 4) 0 / 2 ^ (24 - 8 * (j % 4)) % 2 ^ 8
