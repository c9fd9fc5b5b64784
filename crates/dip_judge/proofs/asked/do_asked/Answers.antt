-- What is asked for, arm by arm.
use Rattle.std.proofs.lemmas.Result.{IfErr-weaker}
use Rattle.sqlite.specs.Files.{over_files}
use Rattle.sqlite.specs.WalFiles.{image_at}
use Rattle.dip_judge.proofs.FileLemmas.{does_as, err_so, ok_so, read_to_end, read_up_to}
use Rattle.dip_judge.proofs.asked.do_asked.Goals as goal

pub returns-in-Init : goal.returns-in-Init
returns-in-Init g c =
    let does = c.do_over_file.ensures.0 in
    let r = c.do_over_file.result.0 in
    does_as over_files (image_at g.S.Start) c.args.map.now c.args.text.now _ _ _ _ c.args.args.now _ r c.do_over_file.result.1 c.in-Init.is
    (record {
      done = ok_so r _ c.do_over_file.ensures.1;
      failed = IfErr-weaker r _ _ (λ f is. (is, c.do_over_file.ensures.1)) does.failed;
      leaves = does.made;
      stops = does.unmade;
      tells = does.tells;
      lasts = does.lasts;
    })

pub returns-in-LettersOver : goal.returns-in-LettersOver
returns-in-LettersOver g c =
    let does = c.do_over_file-in-LettersOver.ensures in
    let r = c.do_over_file-in-LettersOver.result.0 in
    does_as over_files (image_at g.S.Start) c.args.map.now c.args.text.now _ _ _ _ c.args.args.now _ r c.do_over_file-in-LettersOver.result.1 c.in-LettersOver.is
    (record {
      done = read_to_end _ _ _ _ r does.reads;
      failed = read_up_to _ _ _ _ r does.reads;
      leaves = does.done;
      stops = does.stops;
      tells = does.tells;
      lasts = does.lasts;
    })

pub returns-in-Serve : goal.returns-in-Serve
returns-in-Serve g c =
    let does = c.do_over_file-in-Serve.ensures.0 in
    let r = c.do_over_file-in-Serve.result.0 in
    does_as over_files (image_at g.S.Start) c.args.map.now c.args.text.now _ _ _ _ c.args.args.now _ r c.do_over_file-in-Serve.result.1 c.in-Serve.is
    (record {
      done = ok_so r _ c.do_over_file-in-Serve.ensures.1;
      failed = IfErr-weaker r _ _ (λ f is. (is, c.do_over_file-in-Serve.ensures.1)) does.failed;
      leaves = does.done;
      stops = does.stops;
      tells = does.tells;
      lasts = does.lasts;
    })

pub returns-in-Report : goal.returns-in-Report
returns-in-Report g c =
    let does = c.do_over_file-in-Report.ensures.0 in
    let r = c.do_over_file-in-Report.result.0 in
    does_as over_files (image_at g.S.Start) c.args.map.now c.args.text.now _ _ _ _ c.args.args.now _ r c.do_over_file-in-Report.result.1 c.in-Report.is
    (record {
      done = ok_so r _ c.do_over_file-in-Report.ensures.1;
      failed = IfErr-weaker r _ _ (λ f is. (is, c.do_over_file-in-Report.ensures.1)) does.failed;
      leaves = does.done;
      stops = does.stops;
      tells = does.tells;
      lasts = does.lasts;
    })

pub returns-in-Ok : goal.returns-in-Ok
returns-in-Ok g c =
    does_as over_files (image_at g.S.Start) c.args.map.now c.args.text.now _ _ _ _ c.args.args.now _ _ _ c.in-Letters.is
    (record { done = c.in-Ok.ensures.done; failed = tt; leaves = tt; stops = tt; tells = tt; lasts = tt })

pub returns-in-Check : goal.returns-in-Check
returns-in-Check g c =
    let r = c.check.result in
    does_as over_files (image_at g.S.Start) c.args.map.now c.args.text.now _ _ _ _ c.args.args.now _ r _ c.in-Check.is
    (record { done = c.check.ensures.right; failed = c.check.ensures.wrong; leaves = ok_so r _ tt; stops = err_so r _ (λ f. tt); tells = tt; lasts = tt })

pub returns-in-Explain : goal.returns-in-Explain
returns-in-Explain g c =
    let r = c.explain.result in
    does_as over_files (image_at g.S.Start) c.args.map.now c.args.text.now _ _ _ _ c.args.args.now _ r _ c.in-Explain.is
    (record { done = c.explain.ensures.explained; failed = c.explain.ensures.not; leaves = ok_so r _ tt; stops = err_so r _ (λ f. tt); tells = tt; lasts = tt })
