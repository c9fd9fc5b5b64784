use Rattle.sqlite.specs.Files.{over_files}
use Rattle.sqlite.specs.WalFiles.{image_at}
use Rattle.dip_judge.proofs.FileLemmas.{over_file, unopened}
use Rattle.dip_judge.proofs.files.do_over_file.Goals as goal

pub returns-in-Err : goal.returns-in-Err
returns-in-Err g c = unopened over_files (image_at g.S.Start) c.args.map.now c.args.text.now _ _ c.args.command _ c.in-Err.ensures.fault

pub returns-in-Ok : goal.returns-in-Ok
returns-in-Ok g c =
    let does = c.do_stored-outcome in
    let m = c.args.map.now in
    over_file (image_at g.S.Start) m c.in-Ok.store c.in-Ok.ensures.opened c.in-Ok.ensures.found c.args.text.now does.result.1
    (λ master. c.new_desks_are_lawful.ensures m _) _ _ _ _ c.args.command does.result.0 does.ensures
