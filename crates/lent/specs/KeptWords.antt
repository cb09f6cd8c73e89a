-- What is kept of a receiver's last ECN report (specs/PacketCalls of `between`) in 4 words, in the order of include/flasknib.h: whether one is kept, its
-- highest number, packets marked with CE and packets lost. Where none is kept all are 0.
use Rattle.std.specs.Prelude.{◌≡◌, Bool, true, cond, ◌&&◌, List, [], ◌∷◌, ℕ, ◌-◌, ◌^◌, eqb, ltb, length, get_or, Option, Some, None}
use Rattle.answers.specs.Conditions.{all}
use Rattle.between.specs.declared.calls.Kept.{Kept}
use Rattle.lent.specs.Widths.{counts_fit}

-- a word past the end counts as 0
abbrev pub kept_numbers : List ℕ → Kept
kept_numbers words = record { highest = get_or words 1 0; ce = get_or words 2 0; lost = get_or words 3 0 }

abbrev pub kept_in : List ℕ → Option Kept
kept_in words = cond (eqb (get_or words 0 0) 1) (Some (kept_numbers words)) None

-- the highest number has 32 bits, packets marked and lost have 16
abbrev pub numbers_fit : List ℕ → List Bool
numbers_fit words = ltb (get_or words 1 0) (2 ^ 32) ∷ counts_fit words 2 3

abbrev pub zeros : List ℕ → List Bool
zeros words = eqb (get_or words 0 0) 0 ∷ eqb (get_or words 1 0) 0 ∷ eqb (get_or words 2 0) 0 ∷ eqb (get_or words 3 0) 0 ∷ []

-- 4 words: 1 and numbers of these widths, or zeros
abbrev pub is_kept : List ℕ → Bool
is_kept words = eqb (length words) 4 && cond (eqb (get_or words 0 0) 1) (all (numbers_fit words)) (all (zeros words))

unfoldable pub loaded : List ℕ → Option (Option Kept)
loaded words = cond (is_kept words) (Some (kept_in words)) None

-- the 4 words of what is kept
abbrev pub kept_words : Option Kept → List ℕ
kept_words (Some k) = 1 ∷ k.highest ∷ k.ce ∷ k.lost ∷ []
kept_words None = 0 ∷ 0 ∷ 0 ∷ 0 ∷ []

-- ---- both are inverse

-- the numbers have their widths, as their types say
abbrev pub typed_kept : Option Kept → Bool
typed_kept (Some k) = all (ltb k.highest (2 ^ 32) ∷ ltb k.ce (2 ^ 16) ∷ ltb k.lost (2 ^ 16) ∷ [])
typed_kept None = true

abbrev pub KeptBack : Type 0
KeptBack = (kept : Option Kept) → typed_kept kept ≡ true → loaded (kept_words kept) ≡ Some kept

abbrev pub KeptWordsBack : Type 0
KeptWordsBack = (words : List ℕ) (kept : Option Kept) → loaded words ≡ Some kept → kept_words kept ≡ words

-- an ECN report with the greatest numbers
abbrev pub some_kept : Option Kept
some_kept = Some (record { highest = 2 ^ 32 - 1; ce = 2 ^ 16 - 1; lost = 2 ^ 16 - 1 })

-- the hypotheses can be met
pub record SomeKept : Type 0 where
  pub typed : typed_kept some_kept ≡ true
  pub held : loaded (kept_words some_kept) ≡ Some some_kept
