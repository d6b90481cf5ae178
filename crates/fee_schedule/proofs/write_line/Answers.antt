use Rattle.std.proofs.Common.{ap, ◌∙◌, arith}
use Rattle.page_store.specs.Memory.{with_page_at}
use Rattle.page_store.proofs.Pages.{written_is}
use Rattle.fee_schedule.proofs.write_line.Goals as goal

pub returns : goal.returns
returns c =
    let page = c.args.page.now in
    let line = c.args.line in
    written_is 4 line _ page _ (omega arith) ∙ ap (with_page_at 4 page line) c.copy_from_slice.ensures.after
