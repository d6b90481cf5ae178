use Rattle.std.proofs.Common.{◌≡◌, ◌+◌, ◌-◌, ◌*◌, append_assoc, arith}
use Rattle.page_store.specs.Memory.{page_at, with_page_at}
use Rattle.swap_log.proofs.log.moves.copy_page.Goals as goal

pub returns : goal.returns
unfolding page_at with_page_at
returns c =
    let source = c.args.from * c.args.page in
    let one : source + c.args.page - source ≡ c.args.page = omega arith in
    rw (c.copy_within.ensures.after, one, append_assoc)
