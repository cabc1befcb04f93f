use Rattle.std.proofs.Common.{ap, ◌∙◌}
use Rattle.page.specs.Places.{text}
use Rattle.page_laws.proofs.Plays.{plays}
use Rattle.page_laws.proofs.first_play.Goals as goal

pub returns : goal.returns
returns c =
    record { columns = c.columns.ensures ∙ ap text c.twelve_of_kind_seven.ensures ∙ plays.small_stack; plays = plays }
