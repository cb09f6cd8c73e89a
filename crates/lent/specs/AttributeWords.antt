-- What an attribute says (RFC 6679, section 6.1; document 02, request L12) in 11 words, in the order of include/flasknib.h: how many methods, eight methods, the
-- mode and the ect.
use Rattle.sdp.specs.declared.Mode.{Mode}
use Rattle.sdp.specs.declared.Ect.{Ect}
use Rattle.std.specs.Prelude.{◌≡◌, Bool, cond, ◌&&◌, ◌||◌, List, [], ◌∷◌, ℕ, ◌+◌, ◌≤◌, eqb, leb, ltb, length, get_or, Option, Some, None}
use Rattle.answers.specs.Conditions.{all}
use Rattle.sdp.specs.declared.Method.{Method}
use Rattle.sdp.specs.declared.Method.TheVariants.{Rtp, Ice, Leap}
use Rattle.sdp.specs.declared.Mode.TheVariants.{SetOnly, SetRead, ReadOnly}
use Rattle.sdp.specs.declared.Ect.TheVariants.{Zero, One, Random}
use Rattle.sdp.specs.declared.Attribute.{Attribute}
use Rattle.sdp.specs.Reading.{attribute_of}
use Rattle.sdp.specs.Writing.{methods_in}

-- ---- numbers

abbrev pub method_number : Method → ℕ
method_number Rtp = 1
method_number Ice = 2
method_number Leap = 3

-- 0 is absent; 1 sets, 2 reads
abbrev pub mode_number : Option Mode → ℕ
mode_number None = 0
mode_number (Some SetOnly) = 1
mode_number (Some ReadOnly) = 2
mode_number (Some SetRead) = 3

-- 0 is absent; ECT(1) and ECT(0) are numbered as the marks are
abbrev pub ect_number : Option Ect → ℕ
ect_number None = 0
ect_number (Some One) = 1
ect_number (Some Zero) = 2
ect_number (Some Random) = 3

abbrev pub is_method : ℕ → Bool
is_method n = leb 1 n && leb n 3

abbrev pub method_of : ℕ → Method
method_of n = cond (eqb n 2) Ice (cond (eqb n 3) Leap Rtp)

abbrev pub mode_of : ℕ → Option Mode
mode_of n =
    cond (eqb n 1) (Some SetOnly)
    (cond (eqb n 2) (Some ReadOnly)
    (cond (eqb n 3) (Some SetRead)
    None))

abbrev pub ect_of : ℕ → Option Ect
ect_of n =
    cond (eqb n 1) (Some One)
    (cond (eqb n 2) (Some Zero)
    (cond (eqb n 3) (Some Random)
    None))

-- ---- the record in words; a word past the end counts as 0

abbrev pub listed_at : List ℕ → ℕ → Method
listed_at words at = method_of (get_or words at 0)

unfoldable pub attribute_in : List ℕ → Attribute
attribute_in words = record {
  used = get_or words 0 0;
  methods =
      listed_at words 1 ∷ listed_at words 2 ∷ listed_at words 3 ∷ listed_at words 4
      ∷ listed_at words 5 ∷ listed_at words 6 ∷ listed_at words 7 ∷ listed_at words 8 ∷ [];
  mode = mode_of (get_or words 9 0);
  ect = ect_of (get_or words 10 0);
}

-- a method that is not in use is not judged
abbrev pub place_fits : List ℕ → ℕ → Bool
place_fits words i = leb (get_or words 0 0) i || is_method (get_or words (i + 1) 0)

abbrev pub places_fit : List ℕ → List Bool
places_fit words =
    place_fits words 0 ∷ place_fits words 1 ∷ place_fits words 2 ∷ place_fits words 3
    ∷ place_fits words 4 ∷ place_fits words 5 ∷ place_fits words 6 ∷ place_fits words 7 ∷ []

-- 11 words are a record's with methods of 1 to 3 where they are in use, a mode and an ect of at most 3
unfoldable pub is_attribute : List ℕ → Bool
is_attribute words = eqb (length words) 11 && (all (places_fit words) && (ltb (get_or words 9 0) 4 && ltb (get_or words 10 0) 4))

-- the record, or none where they are no record's
unfoldable pub loaded : List ℕ → Option Attribute
loaded words = cond (is_attribute words) (Some (attribute_in words)) None

-- ---- the 11 words of a record; a place that is not in use is 0

abbrev pub place_word : Attribute → ℕ → ℕ
place_word a i = cond (ltb i a.used) (method_number (get_or a.methods i Rtp)) 0

unfoldable pub attribute_words : Attribute → List ℕ
attribute_words a =
    a.used ∷ place_word a 0 ∷ place_word a 1 ∷ place_word a 2 ∷ place_word a 3 ∷ place_word a 4 ∷ place_word a 5 ∷ place_word a 6 ∷ place_word a 7
    ∷ mode_number a.mode ∷ ect_number a.ect ∷ []

-- ---- both are inverse

-- the words of a record of at most 8 methods are those of the same methods in order, mode and ect
abbrev pub AttributeBack : Type 0
AttributeBack =
    (a : Attribute) → length a.methods ≡ 8 → a.used ≤ 8
    → loaded (attribute_words a) ≡ Some (attribute_of (methods_in a) a.mode a.ect)

-- the methods that are not in use as 0
abbrev pub kept : List ℕ → ℕ → ℕ
kept words i = cond (ltb i (get_or words 0 0)) (get_or words (i + 1) 0) 0

abbrev pub cleared : List ℕ → List ℕ
cleared words =
    get_or words 0 0 ∷ kept words 0 ∷ kept words 1 ∷ kept words 2 ∷ kept words 3 ∷ kept words 4 ∷ kept words 5 ∷ kept words 6 ∷ kept words 7
    ∷ get_or words 9 0 ∷ get_or words 10 0 ∷ []

-- words that are a record's are the words of that record, where those that are not in use are 0
abbrev pub AttributeWordsBack : Type 0
AttributeWordsBack = (words : List ℕ) (a : Attribute) → loaded words ≡ Some a → attribute_words a ≡ cleared words

-- ice and leap, setread, random; the word behind them is no method's
abbrev pub some_attribute : List ℕ
some_attribute = 2 ∷ 2 ∷ 3 ∷ 9 ∷ 0 ∷ 0 ∷ 0 ∷ 0 ∷ 0 ∷ 3 ∷ 3 ∷ []

-- the hypotheses can be met
pub record SomeAttribute : Type 0 where
  pub held : loaded some_attribute ≡ Some (attribute_in some_attribute)
  pub eight : length (attribute_in some_attribute).methods ≡ 8
  pub few : (attribute_in some_attribute).used ≤ 8
