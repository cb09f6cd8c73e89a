-- What a compound says of one source (document 01, "Packets"; document 02, L4) as 25 words, in the order of include/flasknib.h.
use Rattle.between.specs.declared.calls.Kept.{Kept}
use Rattle.rtcp.specs.declared.ReportBlock.{ReportBlock}
use Rattle.rtcp.specs.declared.Feedback.{Feedback}
use Rattle.std.specs.Prelude.{◌≡◌, Bool, true, cond, ◌&&◌, List, [], ◌∷◌, ◌++◌, ℕ, ◌-◌, ◌^◌, eqb, leb, ltb, pos, negsuc, length, get_or, replicate, Option, Some, None}
use Rattle.answers.specs.Conditions.{all}
use Rattle.numbers.specs.Integers.{modulo}
use Rattle.between.specs.PacketCalls.{counters_given, call_for}
use Rattle.format.specs.declared.Counts.{Counts}
use Rattle.rtcp.specs.declared.Compound.{Compound}
use Rattle.lent.specs.BreakerWords.{flag}
use Rattle.lent.specs.Widths.{counts_fit}

abbrev pub count_words : Counts → List ℕ
count_words c = c.ect0 ∷ c.ect1 ∷ c.ce ∷ c.notect ∷ c.lost ∷ c.duplicates ∷ []

-- the cumulative lost is signed: its two's complement
unfoldable pub report_words : Option ReportBlock → List ℕ
report_words (Some x) = 1 ∷ x.fraction ∷ modulo (2 ^ 64) x.lost ∷ x.highest ∷ x.jitter ∷ x.lsr ∷ x.dlsr ∷ []
report_words None = replicate 7 0

unfoldable pub feedback_words : Option Feedback → List ℕ
feedback_words (Some x) = 1 ∷ x.sender ∷ x.highest ∷ count_words x.counts
feedback_words None = replicate 9 0

unfoldable pub summary_words : Option Counts → List ℕ
summary_words (Some counts) = 1 ∷ count_words counts
summary_words None = replicate 7 0

-- the SSRC of who sent the report block, or 0 if there is none
unfoldable pub reporter_of : Option ReportBlock → ℕ
reporter_of (Some x) = x.reporter
reporter_of None = 0

-- the last two words: whether an SR or an RR is in the compound, and the reporter
unfoldable pub compound_words : Compound → List ℕ
compound_words c =
    report_words c.report ++ feedback_words c.feedback ++ summary_words c.summary ++ (flag c.reporting ∷ reporter_of c.report ∷ [])

-- ---- the compound in 25 words, as far as the breaker's call for a packet looks at it (specs/PacketCalls of `between`); what plays no part is 0

abbrev pub report_of : List ℕ → Option ReportBlock
report_of ws =
    cond (eqb (get_or ws 0 0) 1)
    (Some (record { fraction = get_or ws 1 0; lost = pos 0; highest = get_or ws 3 0; jitter = 0; lsr = 0; dlsr = 0; reporter = 0 }))
    None

abbrev pub feedback_of : List ℕ → Option Feedback
feedback_of ws =
    cond (eqb (get_or ws 7 0) 1)
    (Some (record { sender = 0; highest = get_or ws 9 0; counts = counters_given (get_or ws 12 0) (get_or ws 14 0) }))
    None

abbrev pub summary_of : List ℕ → Option Counts
summary_of ws = cond (eqb (get_or ws 16 0) 1) (Some (counters_given (get_or ws 19 0) (get_or ws 21 0))) None

unfoldable pub compound_of : List ℕ → Compound
compound_of ws = record { report = report_of ws; feedback = feedback_of ws; summary = summary_of ws; reporting = eqb (get_or ws 23 0) 1 }

-- ---- which words are those of a compound

-- what is absent, 0, or there, 1, and fits
abbrev pub fits_where : ℕ → List Bool → Bool
fits_where there fits = cond (eqb there 1) (all fits) (eqb there 0)

-- a fraction has 8 bits, a highest number 32; packets marked and lost have 16
abbrev pub report_numbers : List ℕ → List Bool
report_numbers ws = ltb (get_or ws 1 0) (2 ^ 8) ∷ ltb (get_or ws 3 0) (2 ^ 32) ∷ []

abbrev pub feedback_numbers : List ℕ → List Bool
feedback_numbers ws = ltb (get_or ws 9 0) (2 ^ 32) ∷ counts_fit ws 12 14

unfoldable pub report_fits : List ℕ → Bool
report_fits ws = fits_where (get_or ws 0 0) (report_numbers ws)

unfoldable pub feedback_fits : List ℕ → Bool
feedback_fits ws = fits_where (get_or ws 7 0) (feedback_numbers ws)

unfoldable pub summary_fits : List ℕ → Bool
summary_fits ws = fits_where (get_or ws 16 0) (counts_fit ws 19 21)

abbrev pub words_fit : List ℕ → List Bool
words_fit ws = report_fits ws ∷ feedback_fits ws ∷ summary_fits ws ∷ leb (get_or ws 23 0) 1 ∷ []

abbrev pub is_compound : List ℕ → Bool
is_compound ws = eqb (length ws) 25 && all (words_fit ws)

unfoldable pub loaded : List ℕ → Option Compound
loaded ws = cond (is_compound ws) (Some (compound_of ws)) None

-- ---- the reader's own words give the call of what was read

-- the fields that play a part have their widths, as their types say
abbrev pub typed_counts : Counts → List Bool
typed_counts c = ltb c.ce (2 ^ 16) ∷ ltb c.lost (2 ^ 16) ∷ []

abbrev pub typed_report : Option ReportBlock → Bool
typed_report (Some r) = all (ltb r.fraction (2 ^ 8) ∷ ltb r.highest (2 ^ 32) ∷ [])
typed_report None = true

abbrev pub typed_feedback : Option Feedback → Bool
typed_feedback (Some f) = all (ltb f.highest (2 ^ 32) ∷ typed_counts f.counts)
typed_feedback None = true

abbrev pub typed_summary : Option Counts → Bool
typed_summary (Some c) = all (typed_counts c)
typed_summary None = true

pub record Typed (c : Compound) : Type 0 where
  pub report : typed_report c.report ≡ true
  pub feedback : typed_feedback c.feedback ≡ true
  pub summary : typed_summary c.summary ≡ true

abbrev pub SameCall : Type 0
SameCall =
    (c : Compound) (earlier : Option Kept) → Typed c
    → (is_compound (compound_words c) ≡ true) × (call_for (compound_of (compound_words c)) earlier ≡ call_for c earlier)

-- the reporter is the last of the words, whatever the others are, and the SR or RR stands before it
pub record LastWords (c : Compound) : Type 0 where
  pub words : length (compound_words c) ≡ 25
  pub reporting : get_or (compound_words c) 23 0 ≡ flag c.reporting
  pub reporter : get_or (compound_words c) 24 0 ≡ reporter_of c.report

abbrev pub ReporterLast : Type 0
ReporterLast = (c : Compound) → LastWords c

-- a packet with a report block, feedback and a summary entry, each number that plays a part the greatest
abbrev pub some_compound : Compound
some_compound =
    let counts : Counts = record { ect0 = 1; ect1 = 2; ce = 2 ^ 16 - 1; notect = 3; lost = 2 ^ 16 - 1; duplicates = 4 } in
    record {
      report = Some (record { fraction = 255; lost = negsuc 0; highest = 2 ^ 32 - 1; jitter = 5; lsr = 6; dlsr = 7; reporter = 8 });
      feedback = Some (record { sender = 9; highest = 2 ^ 32 - 1; counts = counts });
      summary = Some counts;
      reporting = true;
    }

-- the hypothesis can be met
abbrev pub SomeTyped : Type 0
SomeTyped = Typed some_compound
