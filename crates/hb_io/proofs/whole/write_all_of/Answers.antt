use Rattle.std.proofs.{Common.◌++◌, Common.take, Common.arith, KnownBytes.Appends-trans}
use Rattle.hb_io.proofs.MoveLemmas.{front-moved}
use Rattle.hb_io.proofs.whole.write_all_of.Goals as goal

pub loop-rest-preserved : goal.loop-rest-preserved
loop-rest-preserved g c =
    let ((done, split, appended), counts) = c.loop-rest.invariant in
    let rest = c.loop-rest.rest.now in
    let n = c.in-Ok.count in
    let write = c.in-Ok.ensures in (
      (
        done ++ take n rest,
        front-moved _ done rest n split,
        Appends-trans _ _ _ _ _ appended write.bytes,
      ),
      omega (arith, counts, write.cause.later),
    )
