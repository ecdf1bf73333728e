use mathlib.Core.Path.{◌≡◌}
use mathlib.Core.Bool.{true}
use Rattle.content.specs.Content.{content_agrees}
use Rattle.content_code.proofs.content_agrees.Given as given

abbrev pub invariant-loop-i : given.invariant-loop-i
invariant-loop-i l = content_agrees l.wing l.sheet l.years.first l.i ≡ true
