use Rattle.std.proofs.Common.{◌≡◌, get_or, replicate, length, ap, ◌∙◌, rules, Fits, w8}
use Rattle.frame_pool.specs.Layout.{pool_of}
use Rattle.frame_pool.proofs.Pools.{pool_starts, accepted_marks}
use Rattle.frame_pool.proofs.pool.FramePool.new.Goals as goal

pub returns : goal.returns
returns c =
    let n = c.args.count in
    let m = accepted_marks c.args.page n (length c.args.bytes.now) (length c.args.marks.now) c.requires in
    let zeros : c.fill.new.self ≡ replicate n 0 = c.fill.ensures.after (λ y h. h) ∙ ap (λ k. replicate k 0) m in
    let memory = ap (λ ms. record { bytes = c.args.bytes.now; marks = ms }) zeros in
    record { starts_empty = ap (pool_of c.args.page) memory ∙ pool_starts c.args.page n c.args.bytes.now; keeps_all_bytes = memory }

pub invariant_of-result-clause-bounded : goal.invariant_of-result-clause-bounded
invariant_of-result-clause-bounded c = λ k h. let byte : Fits w8 (get_or c.args.bytes.now k 0) = search rules in byte.fits
