-- RFC 6679, section 6.1, figure 5, rule by rule, as relations between bytes and what they say. A line runs from `a=` to before CR LF. Document 02,
-- request L12: rtp, ice and leap are no method extensions, mode and ect no parameter extensions. UTF8-1 is left out of UTF8-NONASCII (docs/DECISIONS.md).
use Rattle.std.specs.Prelude.{◌≡◌, Bool, true, cond, ◌&&◌, ◌||◌, List, [], ◌∷◌, ◌++◌, map, ℕ, ◌+◌, leb, eqb}
use Rattle.answers.specs.Texts.{codes}
use Rattle.sdp.specs.declared.Method.{Method}
use Rattle.sdp.specs.declared.Method.TheVariants.{Rtp, Ice, Leap}
use Rattle.sdp.specs.declared.Mode.{Mode}
use Rattle.sdp.specs.declared.Mode.TheVariants.{SetOnly, SetRead, ReadOnly}
use Rattle.sdp.specs.declared.Ect.{Ect}
use Rattle.sdp.specs.declared.Ect.TheVariants.{Zero, One, Random}

-- ---- literals (RFC 5234, section 2.3): letters match in either case, and nothing else does

unfoldable pub lower : ℕ → ℕ
lower c = cond (leb 65 c && leb c 90) (c + 32) c

-- s is the literal `text`, which is given in lower case
abbrev pub Is : List ℕ → List ℕ → Type 0
Is text s = map lower s ≡ text

abbrev pub method_text : Method → List ℕ
method_text Rtp = codes "rtp"
method_text Ice = codes "ice"
method_text Leap = codes "leap"

abbrev pub mode_text : Mode → List ℕ
mode_text SetOnly = codes "mode=setonly"
mode_text SetRead = codes "mode=setread"
mode_text ReadOnly = codes "mode=readonly"

abbrev pub ect_text : Ect → List ℕ
ect_text Zero = codes "ect=0"
ect_text One = codes "ect=1"
ect_text Random = codes "ect=random"

-- ---- token (RFC 4566, section 9): 1*( 21 / 23-27 / 2A-2B / 2D-2E / 30-39 / 41-5A / 5E-7E )

abbrev pub within : ℕ → ℕ → ℕ → Bool
within least most c = leb least c && leb c most

unfoldable pub token_char : ℕ → Bool
token_char c =
    eqb c 33 || (within 35 39 c || (within 42 43 c || (within 45 46 c || (within 48 57 c || (within 65 90 c || within 94 126 c)))))

pub data Token : List ℕ → Type 0 where
  one : {c : ℕ} → token_char c ≡ true → Token (c ∷ [])
  more : {c : ℕ} {s : List ℕ} → token_char c ≡ true → Token s → Token (c ∷ s)

-- ---- value = token / 22 *qd 22

-- 20-21 / 23-5B / 5D-7E
unfoldable pub quotable : ℕ → Bool
quotable c = within 32 33 c || (within 35 91 c || within 93 126 c)

unfoldable pub tail : ℕ → Bool
tail c = within 128 191 c

-- UTF8-2, UTF8-3 and UTF8-4 of RFC 3629, section 4
pub data Utf8 : List ℕ → Type 0 where
  two : {a b : ℕ} → within 194 223 a ≡ true → tail b ≡ true → Utf8 (a ∷ b ∷ [])
  three_E0 : {b c : ℕ} → within 160 191 b ≡ true → tail c ≡ true → Utf8 (224 ∷ b ∷ c ∷ [])
  three : {a b c : ℕ} → within 225 236 a || within 238 239 a ≡ true → tail b ≡ true → tail c ≡ true → Utf8 (a ∷ b ∷ c ∷ [])
  three_ED : {b c : ℕ} → within 128 159 b ≡ true → tail c ≡ true → Utf8 (237 ∷ b ∷ c ∷ [])
  four_F0 : {b c d : ℕ} → within 144 191 b ≡ true → tail c ≡ true → tail d ≡ true → Utf8 (240 ∷ b ∷ c ∷ d ∷ [])
  four : {a b c d : ℕ} → within 241 243 a ≡ true → tail b ≡ true → tail c ≡ true → tail d ≡ true → Utf8 (a ∷ b ∷ c ∷ d ∷ [])
  four_F4 : {b c d : ℕ} → within 128 143 b ≡ true → tail c ≡ true → tail d ≡ true → Utf8 (244 ∷ b ∷ c ∷ d ∷ [])

pub data Qd : List ℕ → Type 0 where
  plain : {c : ℕ} → quotable c ≡ true → Qd (c ∷ [])
  backslash : Qd (92 ∷ 92 ∷ [])
  quote : Qd (92 ∷ 34 ∷ [])
  nonascii : {s : List ℕ} → Utf8 s → Qd s

pub data Qds : List ℕ → Type 0 where
  none : Qds []
  more : (q s : List ℕ) {t : List ℕ} → Qd q → Qds s → t ≡ q ++ s → Qds t

pub data Value : List ℕ → Type 0 where
  token : {s : List ℕ} → Token s → Value s
  quoted : (s : List ℕ) {t : List ℕ} → Qds s → t ≡ 34 ∷ (s ++ (34 ∷ [])) → Value t

-- ---- what a line says: each method and each parameter, an extension with its bytes (a value with its quotes)

pub data Init : Type 0 where
  known : Method → Init
  other : List ℕ → Init

pub data Parm : Type 0 where
  mode : Mode → Parm
  ect : Ect → Parm
  other : List ℕ → List ℕ → Parm

pub record Line : Type 0 where
  pub methods : List Init
  pub parms : List Parm

-- ---- the rules

pub data MethodIs : List ℕ → Init → Type 0 where
  known : (m : Method) {s : List ℕ} → Is (method_text m) s → MethodIs s (Init.known m)
  other : {s : List ℕ} → Token s → ((m : Method) → Is (method_text m) s → ⊥) → MethodIs s (Init.other s)

pub data ParmIs : List ℕ → Parm → Type 0 where
  mode : (m : Mode) {s : List ℕ} → Is (mode_text m) s → ParmIs s (Parm.mode m)
  ect : (e : Ect) {s : List ℕ} → Is (ect_text e) s → ParmIs s (Parm.ect e)
  other : {name value s : List ℕ} → Token name → (Is (codes "mode") name → ⊥) → (Is (codes "ect") name → ⊥) → Value value
      → s ≡ name ++ (61 ∷ value) → ParmIs s (Parm.other name value)

-- an item, and any number more, each behind the separator
pub data Joined {X : Type 0} (Item : List ℕ → X → Type 0) (separator : List ℕ) : List ℕ → List X → Type 0 where
  one : {s : List ℕ} {x : X} → Item s x → Joined Item separator s (x ∷ [])
  more : (s t : List ℕ) {u : List ℕ} {x : X} {xs : List X} → Item s x → Joined Item separator t xs → u ≡ s ++ (separator ++ t)
      → Joined Item separator u (x ∷ xs)

abbrev pub Methods : List ℕ → List Init → Type 0
Methods = Joined MethodIs (44 ∷ [])

abbrev pub Parms : List ℕ → List Parm → Type 0
Parms = Joined ParmIs (59 ∷ 32 ∷ [])

abbrev pub attribute_name : List ℕ
attribute_name = codes "a=ecn-capable-rtp:"

pub data Derives : List ℕ → Line → Type 0 where
  alone : (a s : List ℕ) {u : List ℕ} {xs : List Init} → Is attribute_name a → Methods s xs → u ≡ a ++ (32 ∷ s)
      → Derives u (record { methods = xs; parms = [] })
  with_parms : (a s t : List ℕ) {u : List ℕ} {xs : List Init} {ys : List Parm} → Is attribute_name a → Methods s xs → Parms t ys
      → u ≡ a ++ (32 ∷ (s ++ (32 ∷ t))) → Derives u (record { methods = xs; parms = ys })
