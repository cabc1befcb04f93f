use Rattle.page_laws.proofs.Comparing.{decided}
use Rattle.page_laws.proofs.Texts.{texts}
use Rattle.page_laws.proofs.Refusals.{refused_first}
use Rattle.page_laws.proofs.same_stacks.Goals as goal

pub returns : goal.returns
returns c =
    record {
      answers = c.compare.ensures;
      decides = decided c.args.one.now c.args.other.now c.compare.result c.compare.ensures;
      texts = texts;
      refusals = refused_first;
    }
