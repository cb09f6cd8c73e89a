-- What reading a compound, and the difference of two ECN reports, leave in the lent words (include/flasknib.h, "compound RTCP").
use Rattle.rtcp.specs.declared.Compound.{Compound}
use Rattle.breaker.specs.declared.EcnCounts.{EcnCounts}
use Rattle.std.specs.Prelude.{ℕ, not, cond, List, [], leb, eqb, Option, Some, None, Result, Ok, Err}
use Rattle.answers.specs.declared.Refusal.{Refusal}
use Rattle.answers.specs.declared.Refusal.TheVariants.{Limits}
use Rattle.rtcp.specs.declared.Profile.{Profile}
use Rattle.rtcp.specs.Compound.{reading}
use Rattle.between.specs.declared.calls.Kept.{Kept}
use Rattle.between.specs.PacketCalls.{since_kept}
use Rattle.lent.specs.CompoundWords.{compound_words}
use Rattle.lent.specs.EcnWords.{ecn_words}
use Rattle.capi.specs.Codes.{refusal_code, Gives}

-- 1 is the profile that takes reduced-size compounds too (RFC 5506), 0 the other (RFC 3550, section 6.1)
abbrev pub profile_of : ℕ → Profile
profile_of n = cond (eqb n 1) Profile.ReducedSize Profile.Compound

-- another profile than 0 and 1 is refused with 10, before all else
unfoldable pub reading_by : ℕ → List ℕ → ℕ → Result Compound Refusal
reading_by profile bytes media =
    cond (not (leb profile 1)) (Err Limits)
    (reading bytes media (profile_of profile))

-- the reader's refusal
abbrev pub reading_fault : Result Compound Refusal → Option Refusal
reading_fault (Err refusal) = Some refusal
reading_fault (Ok c) = None

abbrev pub reading_words : Result Compound Refusal → List ℕ
reading_words (Err refusal) = []
reading_words (Ok c) = compound_words c

-- flasknib_read_compound ("Packets", the compound reader): 10 for the profile, 1 if empty, 10, then the first fault of the scan, 12; or 0 and 25
-- words
abbrev pub ReadsCompound : List ℕ → ℕ → ℕ → List ℕ → ℕ → List ℕ → Type 0
ReadsCompound bytes media profile old r found =
    Gives refusal_code
    (reading_fault (reading_by profile bytes media))
    (reading_words (reading_by profile bytes media))
    old r found

-- ---- flasknib_ecn_between

-- the refusal, 10
abbrev pub between_fault : Result EcnCounts Refusal → Option Refusal
between_fault (Err refusal) = Some refusal
between_fault (Ok c) = None

abbrev pub between_words : Result EcnCounts Refusal → List ℕ
between_words (Err refusal) = []
between_words (Ok c) = ecn_words c

-- what came between: 10, 12; or 0 and 3 words
abbrev pub Tells : Result EcnCounts Refusal → List ℕ → ℕ → List ℕ → Type 0
Tells b old r out =
    Gives refusal_code
    (between_fault b)
    (between_words b)
    old r out

-- an ECN report by its highest number, packets marked with CE and packets lost
abbrev pub report_given : ℕ → ℕ → ℕ → Kept
report_given highest ce lost = record { highest = highest; ce = ce; lost = lost }

-- of two of them, the later one first
abbrev pub TellsBetween : ℕ → ℕ → ℕ → ℕ → ℕ → ℕ → List ℕ → ℕ → List ℕ → Type 0
TellsBetween highest ce lost highest₂ ce₂ lost₂ old r out =
    Tells (since_kept (report_given highest ce lost) (report_given highest₂ ce₂ lost₂)) old r out
