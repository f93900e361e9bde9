use Rattle.std.proofs.Common.{ap, take, sym, ◌∙◌}
use Rattle.hb_io.proofs.MoveLemmas.{end-copied, left-copied}
use Rattle.hb_io.proofs.mem_source.MemSourceSource.read.Goals as goal

pub returns-clause-bytes : goal.returns-clause-bytes
returns-clause-bytes c =
    let copy = c.copy_front-count in
    let self = c.args.self.now in
    let xs = self.bytes.items in
    let n = copy.result in (
      left-copied xs copy.new.buf self.at n (copy.ensures.copied ∙ ap (take n) c.left.ensures),
      λ none room. end-copied xs self.at n none (sym c.left.ensures ∙ copy.ensures.end none room),
    )
