-- Document 02, request L12: what holds of every line, every record and every answer.
use Rattle.sdp.specs.declared.Mode.{Mode}
use Rattle.sdp.specs.declared.Ect.{Ect}
use Rattle.answers.specs.declared.Refusal.{Refusal}
use Rattle.std.specs.Prelude.{◌≡◌, true, List, [], ◌∷◌, ◌++◌, ℕ, ◌≤◌, length, Option, Some, None, Result, Ok, Err}
use Rattle.sdp.specs.declared.Method.{Method}
use Rattle.sdp.specs.declared.Mode.TheVariants.{SetOnly, SetRead, ReadOnly}
use Rattle.sdp.specs.declared.Attribute.{Attribute}
use Rattle.sdp.specs.declared.Chosen.{Chosen}
use Rattle.sdp.specs.Grammar.{Line, Derives}
use Rattle.sdp.specs.Reading.{attribute_of, Reads}
use Rattle.sdp.specs.Writing.{methods_in, write_fault, attribute_bytes}
use Rattle.sdp.specs.Answers.{names, capability, answered, answer_of}

-- ---- reading

-- a line has at most one reading, extensions with their bytes
abbrev pub OneReading : Type 0
OneReading = (s : List ℕ) (x y : Line) → Derives s x → Derives s y → x ≡ y

-- the line fixes what the reader answers
abbrev pub ReadsOnce : Type 0
ReadsOnce = (s : List ℕ) (r q : Result Attribute Refusal) → Reads s r → Reads s q → r ≡ q

-- ---- writing

-- a record has eight places, as every value of the type has, and is not refused: one to eight methods
pub record Writable (a : Attribute) : Type 0 where
  pub places : length a.methods ≡ 8
  pub sound : write_fault a ≡ None

-- what is written reads back to the same methods in order, mode and ect
abbrev pub ReadsBack : Type 0
ReadsBack =
    (a : Attribute) → Writable a → Reads (attribute_bytes a) (Ok (attribute_of (methods_in a) a.mode a.ect))

-- what is written has 22 to 84 bytes
abbrev pub WrittenFits : Type 0
WrittenFits = (a : Attribute) → Writable a → (22 ≤ length (attribute_bytes a)) × (length (attribute_bytes a) ≤ 84)

-- ---- the answer

-- what is included stands in our list; the offer names it, and nothing that stands before it there; mode and ect are ours
pub record First (offer ours : Attribute) (c : Chosen) : Type 0 where
  pub before : List Method
  pub after : List Method
  pub stands : methods_in ours ≡ before ++ (c.method ∷ after)
  pub named : names (methods_in offer) c.method ≡ true
  pub unnamed : (m : Method) → names before m ≡ true → names (methods_in offer) m ≡ true → ⊥
  pub mode : c.mode ≡ ours.mode
  pub ect : c.ect ≡ ours.ect

abbrev pub ChosenFirst : Type 0
ChosenFirst = (offer ours : Attribute) (c : Chosen) → answer_of offer ours ≡ Ok (Some c) → First offer ours c

-- no method is common, or both sides are setonly, or both readonly
pub data NoAnswer (offer ours : Attribute) : Type 0 where
  apart : ((m : Method) → names (methods_in ours) m ≡ true → names (methods_in offer) m ≡ true → ⊥) → NoAnswer offer ours
  set : capability offer.mode ≡ SetOnly → capability ours.mode ≡ SetOnly → NoAnswer offer ours
  read : capability offer.mode ≡ ReadOnly → capability ours.mode ≡ ReadOnly → NoAnswer offer ours

-- with at most 8 methods on each side the attribute is left out exactly then
abbrev pub LeftOutThen : Type 0
LeftOutThen =
    (offer ours : Attribute) → offer.used ≤ 8 → ours.used ≤ 8
    → (answer_of offer ours ≡ (Ok None) → NoAnswer offer ours) × (NoAnswer offer ours → answer_of offer ours ≡ (Ok None))

abbrev pub mode_set : Option Mode → Attribute → Attribute
mode_set m a = record { used = a.used; methods = a.methods; mode = m; ect = a.ect }

abbrev pub ect_set : Option Ect → Attribute → Attribute
ect_set e a = record { used = a.used; methods = a.methods; mode = a.mode; ect = e }

-- an answer without its mode
abbrev pub modeless : Result (Option Chosen) Refusal → Result (Option Chosen) Refusal
modeless (Ok (Some c)) = Ok (Some (record { method = c.method; mode = None; ect = c.ect }))
modeless (Ok None) = (Ok None)
modeless (Err r) = Err r

-- section 6.1.1: an absent mode in the offer gives setread's answer; in ours the same verdict and method
abbrev pub AbsentIsSetread : Type 0
AbsentIsSetread =
    (offer ours : Attribute)
    → (answer_of (mode_set None offer) ours ≡ answer_of (mode_set (Some SetRead) offer) ours)
    × (modeless (answer_of offer (mode_set None ours)) ≡ modeless (answer_of offer (mode_set (Some SetRead) ours)))

-- the offer's ect changes nothing
abbrev pub OfferedEct : Type 0
OfferedEct = (offer ours : Attribute) (e : Option Ect) → answer_of (ect_set e offer) ours ≡ answer_of offer ours

-- an included answer, written, reads back to that one method, our mode and our ect
abbrev pub AnswerReads : Type 0
AnswerReads =
    (offer ours : Attribute) (c : Chosen) → answer_of offer ours ≡ Ok (Some c)
    → Reads (attribute_bytes (answered c)) (Ok (attribute_of (c.method ∷ []) ours.mode ours.ect))
