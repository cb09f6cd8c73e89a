-- RFC 6679, section 6.1.1, and document 02, request L12: our first method that the offer names, our mode and our ect.
use Rattle.answers.specs.declared.Refusal.{Refusal}
use Rattle.std.specs.Prelude.{Bool, true, false, cond, ◌||◌, List, [], ◌∷◌, ◌+◌, ltb, leb, set, Option, Some, None, Result, Ok, Err}
use Rattle.answers.specs.declared.Refusal.TheVariants.{Limits}
use Rattle.sdp.specs.declared.Method.{Method}
use Rattle.sdp.specs.declared.Method.TheVariants.{Rtp, Ice, Leap}
use Rattle.sdp.specs.declared.Mode.{Mode}
use Rattle.sdp.specs.declared.Mode.TheVariants.{SetOnly, SetRead, ReadOnly}
use Rattle.sdp.specs.declared.Attribute.{Attribute}
use Rattle.sdp.specs.declared.Chosen.{Chosen}
use Rattle.sdp.specs.Reading.{attribute_of}
use Rattle.sdp.specs.Writing.{methods_in}

-- the record with one method more, unchanged where eight are used
unfoldable pub with_method : Attribute → Method → Attribute
with_method a m =
    cond (leb 8 a.used) a (record { used = a.used + 1; methods = set a.methods a.used m; mode = a.mode; ect = a.ect })

-- what an answer says, as `write` takes it
abbrev pub answered : Chosen → Attribute
answered c = attribute_of (c.method ∷ []) c.mode c.ect

abbrev pub same_method : Method → Method → Bool
same_method Rtp Rtp = true
same_method Rtp Ice = false
same_method Rtp Leap = false
same_method Ice Rtp = false
same_method Ice Ice = true
same_method Ice Leap = false
same_method Leap Rtp = false
same_method Leap Ice = false
same_method Leap Leap = true

unfoldable pub names : List Method → Method → Bool
names [] m = false
names (x ∷ xs) m = same_method x m || names xs m

-- section 6.1: an absent mode is setread
abbrev pub capability : Option Mode → Mode
capability None = SetRead
capability (Some m) = m

-- no direction has a side that sets and a side that reads
abbrev pub both_one_way : Mode → Mode → Bool
both_one_way SetOnly SetOnly = true
both_one_way SetOnly SetRead = false
both_one_way SetOnly ReadOnly = false
both_one_way SetRead SetOnly = false
both_one_way SetRead SetRead = false
both_one_way SetRead ReadOnly = false
both_one_way ReadOnly SetOnly = false
both_one_way ReadOnly SetRead = false
both_one_way ReadOnly ReadOnly = true

-- of the methods of ours the first that the offer names
unfoldable pub first_in : List Method → List Method → Attribute → Option Chosen
first_in offered [] ours = None
first_in offered (m ∷ ms) ours =
    let later = first_in offered ms ours in
    cond (names offered m) (Some (record { method = m; mode = ours.mode; ect = ours.ect })) later

-- 10: over 8 methods on either side
unfoldable pub answer_of : Attribute → Attribute → Result (Option Chosen) Refusal
answer_of offer ours =
    cond (ltb 8 offer.used) (Err Limits)
    (cond (ltb 8 ours.used) (Err Limits)
    (cond (both_one_way (capability offer.mode) (capability ours.mode)) (Ok None)
    (Ok (first_in (methods_in offer) (methods_in ours) ours))))
