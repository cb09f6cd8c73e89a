-- Where an arrival stands by its distance d from the highest number (document 01, "Counting arrivals"; RFC 3550, appendix A.1).
use Rattle.std.specs.Prelude.{ℕ, ◌-◌, ◌%◌, cond, ◌&&◌, ◌||◌, eqb, leb}
use Rattle.source.specs.declared.distances.Reach.{Reach}
use Rattle.source.specs.declared.distances.Reach.TheVariants.{Ahead, Behind, Jump}

-- the greatest distance that is ahead: MAX_DROPOUT is 3,000
abbrev pub most_ahead : ℕ
most_ahead = 2999

-- the least that is behind: MAX_MISORDER is 100
abbrev pub least_behind : ℕ
least_behind = 65437

-- d from 1 to 2,999: ahead by d; d = 0, or from 65,437 on: behind by (65,536 - d) modulo 65,536; otherwise a jump
unfoldable pub reach_of : ℕ → Reach
reach_of d =
    cond (leb 1 d && leb d most_ahead) (Ahead d)
    (cond (eqb d 0 || leb least_behind d) (Behind ((65536 - d) % 65536))
    Jump)
