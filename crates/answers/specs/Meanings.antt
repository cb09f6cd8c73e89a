-- One text for each refusal's number (document 01, "Refusal numbers"; 02), for whoever is refused.
use Rattle.std.specs.Prelude.{ℕ, ◌-◌, ◌≤◌, cond, ◌&&◌, List, [], ◌∷◌, leb, length, get_or, Option, Some, None}
use Rattle.answers.specs.Texts.{codes}
use Rattle.answers.specs.declared.Refusal.{Refusal}
use Rattle.answers.specs.declared.Refusal.TheVariants.{Limits}

-- from 1 on
abbrev pub meanings : List (List ℕ)
meanings =
    codes "the input is empty, or ends in the middle of a block or a header"
    ∷ codes "the version in an RTCP header is not 2"
    ∷ codes "the first packet is no SR or RR"
    ∷ codes "a packet passes the end, or does not have its body's size"
    ∷ codes "the padding is wrong, or not in the last packet"
    ∷ codes "an XR block passes its packet"
    ∷ codes "the sequence number is too far from the highest: a jump"
    ∷ codes "2^48 arrivals are counted"
    ∷ codes "the record is malformed"
    ∷ codes "a number, a label, records or a size is outside the limits"
    ∷ codes "the time is earlier than a call before it allows"
    ∷ codes "the output is too small"
    ∷ codes "the block's checksum does not fit"
    ∷ codes "the block breaks the format, or has a wrong kind, form or SSRC for its place"
    ∷ codes "a source is new, and every place of the table is held (at most 16)"
    ∷ codes "the table breaks its rules, or has over 16 places"
    ∷ codes "a time of 2^32 ms or more needs form 2"
    ∷ codes "the attribute is malformed"
    ∷ codes "a new label has a retired byte, 10 or 13"
    ∷ []

-- the greatest number
abbrev pub last_number : ℕ
last_number = 19

unfoldable pub meaning_of : ℕ → List ℕ
meaning_of number = get_or meanings (number - 1) []

-- 10 for a number that is no refusal's
unfoldable pub meaning_fault : ℕ → Option Refusal
meaning_fault number = cond (leb 1 number && leb number last_number) None (Some Limits)

-- no text has over 80 bytes
abbrev pub most_meaning : ℕ
most_meaning = 80

abbrev pub MeaningFits : Type 0
MeaningFits = (number : ℕ) → length (meaning_of number) ≤ most_meaning
