-- Document 02, request L12: what the reader answers, over the grammar.
use Rattle.std.specs.Prelude.{List, [], ◌∷◌, ◌++◌, ℕ, ◌-◌, ◌≤◌, ◌<◌, length, replicate, Option, Some, None, Result, Ok, Err}
use Rattle.answers.specs.declared.Refusal.{Refusal}
use Rattle.answers.specs.declared.Refusal.TheVariants as why
use Rattle.sdp.specs.declared.Method.{Method}
use Rattle.sdp.specs.declared.Method.TheVariants.{Rtp}
use Rattle.sdp.specs.declared.Mode.{Mode}
use Rattle.sdp.specs.declared.Ect.{Ect}
use Rattle.sdp.specs.declared.Attribute.{Attribute}
use Rattle.sdp.specs.Grammar.{Init, Parm, Line, Derives}

-- the methods of a line, in order, extensions passed over
abbrev pub methods_of : List Init → List Method
methods_of [] = []
methods_of (Init.known m ∷ xs) = m ∷ methods_of xs
methods_of (Init.other s ∷ xs) = methods_of xs

-- its modes and its ects
abbrev pub modes_of : List Parm → List Mode
modes_of [] = []
modes_of (Parm.mode m ∷ xs) = m ∷ modes_of xs
modes_of (Parm.ect e ∷ xs) = modes_of xs
modes_of (Parm.other name value ∷ xs) = modes_of xs

abbrev pub ects_of : List Parm → List Ect
ects_of [] = []
ects_of (Parm.mode m ∷ xs) = ects_of xs
ects_of (Parm.ect e ∷ xs) = e ∷ ects_of xs
ects_of (Parm.other name value ∷ xs) = ects_of xs

-- a well_formed line and what it says: a mode at most once, an ect at most once
pub record Says (s : List ℕ) (x : Line) : Type 0 where
  pub derived : Derives s x
  pub one_mode : length (modes_of x.parms) ≤ 1
  pub one_ect : length (ects_of x.parms) ≤ 1

abbrev pub maybe_mode : List Mode → Option Mode
maybe_mode [] = None
maybe_mode (m ∷ ms) = Some m

abbrev pub maybe_ect : List Ect → Option Ect
maybe_ect [] = None
maybe_ect (e ∷ es) = Some e

-- the record of a list of at most 8 methods, a mode and an ect; the places behind the methods are set to rtp
unfoldable pub attribute_of : List Method → Option Mode → Option Ect → Attribute
attribute_of ms m e = record { used = length ms; methods = ms ++ replicate (8 - length ms) Rtp; mode = m; ect = e }

abbrev pub nothing : Attribute
nothing = attribute_of [] None None

-- what is kept of a line
abbrev pub kept : Line → Attribute
kept x = attribute_of (methods_of x.methods) (maybe_mode (modes_of x.parms)) (maybe_ect (ects_of x.parms))

-- a line that is refused has no method, no mode and no ect: it has no record
abbrev pub refused_by : Refusal → Result Attribute Refusal
refused_by r = Err r

-- in this order: 10 over 255 bytes; 18 where no line is said; 10 over 8 methods or 8 parameters, extensions counted; what is kept
pub data Reads (s : List ℕ) : Result Attribute Refusal → Type 0 where
  long : 255 < length s → Reads s (refused_by why.Limits)
  malformed : length s ≤ 255 → ((x : Line) → Says s x → ⊥) → Reads s (refused_by why.Attribute)
  methods : {x : Line} → length s ≤ 255 → Says s x → 8 < length x.methods → Reads s (refused_by why.Limits)
  parms : {x : Line} → length s ≤ 255 → Says s x → 8 < length x.parms → Reads s (refused_by why.Limits)
  given : {x : Line} → length s ≤ 255 → Says s x → length x.methods ≤ 8 → length x.parms ≤ 8 → Reads s (Ok (kept x))
