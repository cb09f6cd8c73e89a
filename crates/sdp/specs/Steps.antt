-- What one turn of the reader finds: an item of a list and what stands behind it. The reader's own calls promise these; no public statement rests on them.
use Rattle.std.specs.Prelude.{◌≡◌, Bool, true, false, cond, ◌&&◌, List, [], ◌∷◌, ◌++◌, map, ℕ, ◌+◌, ◌-◌, leb, eqb, length, take, drop, get_or}
use Rattle.answers.specs.Texts.{codes}
use Rattle.sdp.specs.declared.Method.TheVariants.{Rtp, Ice, Leap}
use Rattle.sdp.specs.declared.Mode.TheVariants.{SetOnly, SetRead, ReadOnly}
use Rattle.sdp.specs.declared.Ect.TheVariants.{Zero, One, Random}
use Rattle.sdp.specs.declared.steps.Part.{Part}
use Rattle.sdp.specs.declared.steps.Part.TheVariants as part
use Rattle.sdp.specs.declared.steps.Item.{Item}
use Rattle.sdp.specs.declared.steps.Item.TheVariants as item
use Rattle.sdp.specs.declared.steps.Found.{Found}
use Rattle.sdp.specs.declared.steps.Found.TheVariants as found
use Rattle.sdp.specs.declared.steps.Step.{Step}
use Rattle.sdp.specs.Lengths.{value_end}
use Rattle.sdp.specs.Grammar.{lower, method_text, attribute_name, Init, Parm, MethodIs, ParmIs}

-- ---- literals

unfoldable pub same : List ℕ → List ℕ → Bool
same [] [] = true
same [] (b ∷ t) = false
same (a ∷ s) [] = false
same (a ∷ s) (b ∷ t) = eqb a b && same s t

-- whether s is the literal `text`
unfoldable pub spelled : List ℕ → List ℕ → Bool
spelled text s = same (map lower s) text

-- whether a line begins with the attribute's name and a space
unfoldable pub begins : List ℕ → Bool
begins s = cond (eqb (get_or s 18 0) 32) (spelled attribute_name (take 18 s)) false

-- what a method is
unfoldable pub method_item : List ℕ → Item
method_item s =
    cond (spelled (method_text Rtp) s) (item.Known Rtp)
    (cond (spelled (method_text Ice) s) (item.Known Ice)
    (cond (spelled (method_text Leap) s) (item.Known Leap) item.Other))

unfoldable pub mode_item : List ℕ → Item
mode_item v =
    cond (spelled (codes "setonly") v) (item.Mode SetOnly)
    (cond (spelled (codes "setread") v) (item.Mode SetRead)
    (cond (spelled (codes "readonly") v) (item.Mode ReadOnly) item.Nothing))

unfoldable pub ect_item : List ℕ → Item
ect_item v =
    cond (spelled (codes "0") v) (item.Ect Zero)
    (cond (spelled (codes "1") v) (item.Ect One)
    (cond (spelled (codes "random") v) (item.Ect Random) item.Nothing))

-- what a parameter is, by its name and its value
unfoldable pub parm_item : List ℕ → List ℕ → Item
parm_item name value = cond (spelled (codes "mode") name) (mode_item value) (cond (spelled (codes "ect") name) (ect_item value) item.Other)

abbrev pub is_nothing : Item → Bool
is_nothing (item.Known m) = false
is_nothing (item.Mode m) = false
is_nothing (item.Ect e) = false
is_nothing item.Other = false
is_nothing item.Nothing = true

-- ---- an item with what stands behind it

abbrev pub step : Found → Item → Part → ℕ → Step
step f i p at = record { found = f; item = i; part = p; at = at }

abbrev pub no_step : Step
no_step = step found.Nothing item.Nothing part.Methods 0

abbrev pub last_step : Item → Step
last_step i = step found.Last i part.Methods 0

unfoldable pub behind_method : List ℕ → ℕ → Item → Step
behind_method s at i =
    cond (leb (length s) at) (last_step i)
    (cond (eqb (get_or s at 0) 44) (step found.More i part.Methods (at + 1))
    (cond (eqb (get_or s at 0) 32) (step found.More i part.Parms (at + 1)) no_step))

unfoldable pub behind_parm : List ℕ → ℕ → Item → Step
behind_parm s at i =
    cond (leb (length s) at) (last_step i)
    (cond (eqb (get_or s at 0) 59) (cond (eqb (get_or s (at + 1) 0) 32) (step found.More i part.Parms (at + 2)) no_step) no_step)

-- the part of a list between two places
abbrev pub between : List ℕ → ℕ → ℕ → List ℕ
between s from to = take (to - from) (drop from s)

-- a parameter whose name runs from a place to another
unfoldable pub parm_value : List ℕ → ℕ → ℕ → Step
parm_value s at name =
    let end = value_end s (name + 1) in
    cond (leb end (name + 1)) no_step
    (cond (is_nothing (parm_item (between s at name) (between s (name + 1) end))) no_step
    (behind_parm s end (parm_item (between s at name) (between s (name + 1) end))))

-- an item of either list
pub data Entry : Type 0 where
  method : Init → Entry
  parm : Parm → Entry

pub data EntryIs : Part → List ℕ → Entry → Type 0 where
  method : {s : List ℕ} {x : Init} → MethodIs s x → EntryIs part.Methods s (Entry.method x)
  parm : {s : List ℕ} {x : Parm} → ParmIs s x → EntryIs part.Parms s (Entry.parm x)

abbrev pub item_of : Entry → Item
item_of (Entry.method (Init.known m)) = item.Known m
item_of (Entry.method (Init.other s)) = item.Other
item_of (Entry.parm (Parm.mode m)) = item.Mode m
item_of (Entry.parm (Parm.ect e)) = item.Ect e
item_of (Entry.parm (Parm.other name value)) = item.Other

-- what stands between an item and the next, and the list that this is of
pub data Between : Part → Part → List ℕ → Type 0 where
  comma : Between part.Methods part.Methods (44 ∷ [])
  space : Between part.Methods part.Parms (32 ∷ [])
  semicolon : Between part.Parms part.Parms (59 ∷ 32 ∷ [])

-- what a turn answers at a place: the last item, an item with one more behind it, or neither stands there
pub data Stands (p : Part) (s : List ℕ) (at : ℕ) : Step → Type 0 where
  last : {x : Entry} → EntryIs p (drop at s) x → Stands p s at (last_step (item_of x))
  more : (u b t : List ℕ) {x : Entry} {q : Part} → EntryIs p u x → Between p q b → drop at s ≡ u ++ (b ++ t)
      → Stands p s at (step found.More (item_of x) q (at + (length u + length b)))
  none : ((x : Entry) → EntryIs p (drop at s) x → ⊥)
      → ((u b t : List ℕ) (x : Entry) (q : Part) → EntryIs p u x → Between p q b → drop at s ≡ u ++ (b ++ t) → ⊥) → Stands p s at no_step
