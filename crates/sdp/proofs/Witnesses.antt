-- Lines of RFC 6679, section 12, and of the request, read by computation; each theorem that asks something, applied. Assumes nothing.
use Rattle.std.specs.Prelude.{Option, Some, None, Result, Ok}
use Rattle.sdp.specs.declared.Mode.{Mode}
use Rattle.sdp.specs.declared.Ect.{Ect}
use mathlib.Core.Path.{◌≡◌, refl}
use mathlib.Core.List.{List, [], ◌∷◌, ◌++◌, map}
use Prim.Native.Nat.{ℕ}
use native.Mathlib.Omega.{arith}
use Rattle.answers.specs.Texts.{codes}
use Rattle.answers.specs.declared.Refusal.{Refusal}
use Rattle.answers.specs.declared.Refusal.TheVariants as why
use Rattle.sdp.specs.declared.Method.{Method}
use Rattle.sdp.specs.declared.Method.TheVariants.{Rtp, Ice, Leap}
use Rattle.sdp.specs.declared.Mode.TheVariants.{SetOnly, ReadOnly}
use Rattle.sdp.specs.declared.Ect.TheVariants.{Zero, One}
use Rattle.sdp.specs.declared.Attribute.{Attribute}
use Rattle.sdp.specs.declared.Chosen.{Chosen}
use Rattle.sdp.specs.Grammar
use Rattle.sdp.specs.Grammar.{Init, Parm, Derives}
use Rattle.sdp.specs.Lengths
use Rattle.sdp.specs.Steps
use Rattle.sdp.specs.Steps.{Entry}
use Rattle.sdp.specs.Tallies
use Rattle.sdp.specs.Reading.{attribute_of, refused_by}
use Rattle.sdp.specs.Writing.{write_fault}
use Rattle.sdp.specs.Answers
use Rattle.sdp.specs.Answers.{answer_of}
use Rattle.sdp.specs.Theorems.{NoAnswer}
use Rattle.sdp.proofs.Turns.{method_step, parm_step, method_at, parm_at}
use Rattle.sdp.proofs.Derivations.{items, line_of, items_derives, one_reading}
use Rattle.sdp.proofs.Counting.{tallied}
use Rattle.sdp.proofs.Answering.{outcome, read_of, reads_of, reads_once}
use Rattle.sdp.proofs.Backs.{reads_back, written_fits}
use Rattle.sdp.proofs.Choices.{chosen_first, left_out, answer_reads}

abbrev said : List Method → Option Mode → Option Ect → Result Attribute Refusal
said ms o e = Ok (attribute_of ms o e)

abbrev eight : List ℕ
eight = codes "a=ecn-capable-rtp: ice,rtp,leap,x,RTP,y!,ice,rtp"

abbrev limits : Result Attribute Refusal
limits = refused_by why.Limits

abbrev malformed : Result Attribute Refusal
malformed = refused_by why.Attribute

-- the line of 12.2; the offer and the answer of 12.1, which break figure 5; a mode between two quoted strings; 8 methods and 9
abbrev lines : List (List ℕ)
lines =
    codes "a=ecn-capable-rtp: rtp mode=readonly; ect=0"
    ∷ codes "a=ecn-capable-rtp: ice rtp ect=0 mode=setread"
    ∷ codes "a=ecn-capable-rtp: ice ect=0 mode=readonly"
    ∷ codes "a=ecn-capable-rtp: rtp x=\"a\"; mode=setonly; y=\"b\""
    ∷ eight
    ∷ (eight ++ codes ",z")
    ∷ []

abbrev readings : List (Result Attribute Refusal)
readings =
    said (Rtp ∷ []) (Some ReadOnly) (Some Zero)
    ∷ malformed
    ∷ malformed
    ∷ said (Rtp ∷ []) (Some SetOnly) None
    ∷ said (Ice ∷ Rtp ∷ Leap ∷ Rtp ∷ Ice ∷ Rtp ∷ []) None None
    ∷ limits
    ∷ []

pub computed : map read_of lines ≡ readings
unfolding read_of outcome items method_step parm_step method_at parm_at tallied Grammar.lower Grammar.token_char Grammar.quotable Grammar.tail
    Lengths.token_length Lengths.lead_of Lengths.utf8_size Lengths.utf8_length Lengths.qd_length Lengths.closes Lengths.value_end
    Steps.same Steps.spelled Steps.begins Steps.method_item Steps.mode_item Steps.ect_item Steps.parm_item Steps.behind_method Steps.behind_parm Steps.parm_value
    Tallies.noted Tallies.finished Answers.with_method attribute_of
computed = refl

-- ---- what the theorems ask is met

abbrev line : List ℕ
line = codes "a=ecn-capable-rtp: rtp,x mode=readonly"

abbrev entries : List Entry
entries = Entry.method (Init.known Rtp) ∷ Entry.method (Init.other (codes "x")) ∷ Entry.parm (Parm.mode ReadOnly) ∷ []

derived : Derives line (line_of entries)
unfolding items method_step parm_step method_at parm_at Grammar.lower Grammar.token_char Lengths.token_length Lengths.value_end
    Steps.same Steps.spelled Steps.begins Steps.method_item Steps.mode_item Steps.parm_item Steps.behind_method Steps.behind_parm Steps.parm_value
derived = items_derives line entries refl refl

abbrev offer : Attribute
offer = attribute_of (Leap ∷ Rtp ∷ []) (Some SetOnly) None

abbrev ours : Attribute
ours = attribute_of (Ice ∷ Rtp ∷ Leap ∷ []) None (Some One)

abbrev chosen : Chosen
chosen = record { method = Rtp; mode = None; ect = Some One }

used : Unit {0}
unfolding attribute_of write_fault answer_of Answers.names Answers.first_in
used =
    let reading = one_reading line (line_of entries) (line_of entries) derived derived in
    let once = reads_once line (read_of line) (read_of line) (reads_of line) (reads_of line) in
    let back = reads_back ours (record { places = refl; sound = refl }) in
    let fits = written_fits ours (record { places = refl; sound = refl }) in
    let first = chosen_first offer ours chosen refl in
    let without = left_out offer offer (omega arith) (omega arith) in
    let why = without.0 refl in
    let then = without.1 (NoAnswer.set refl refl) in
    let answer = answer_reads offer ours chosen refl in
    tt
