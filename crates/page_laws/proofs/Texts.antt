use Rattle.page.proofs.Texts.{is_bag-render, lawful_stacks, render-stacks, stacks-render}
use Rattle.page_laws.specs.Texts.{Texts}

pub texts : Texts
texts =
    record {
      read_again = λ ss later lawful. (is_bag-render ss later lawful, stacks-render ss later lawful);
      only_text = λ page bag. (lawful_stacks page bag, render-stacks page bag);
    }
