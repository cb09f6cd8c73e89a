-- The worked examples of docs/BREAKER.md, by one computation over their table. Assumes nothing.
use mathlib.Core.Path.{refl}
use Rattle.wide.specs.Page.{PageHolds}

pub page_holds : PageHolds
page_holds = refl
