use Rattle.std.proofs.Common.{map, refl}
use Rattle.std.proofs.lemmas.Option.{IfSome_then}
use Rattle.std.proofs.lemmas.Result.{IfErr-weaker, on_ok_weaker}
use Rattle.sqlite.specs.Files.{over_files}
use Rattle.sqlite.specs.WalFiles.{image_at}
use Rattle.dip_map_text.specs.declared.standard.TheConstants.{STANDARD}
use Rattle.dip_judge.specs.Files.{StopsStore}
use Rattle.dip_judge.proofs.FileLemmas.{failed_as, if_asked, map_named_so, no_map_so}
use Rattle.dip_judge.proofs.asked.do_as_asked.Goals as goal

pub returns-in-Err : goal.returns-in-Err
returns-in-Err g c = record { done = tt; failed = (c.in-Err.ensures.faults, (refl, refl)); leaves = tt; stops = tt; tells = tt; lasts = tt }

pub returns-in-Err-read_map : goal.returns-in-Err-read_map
returns-in-Err-read_map g c =
    record {
      done = tt;
      failed = (
        (
          c.in-Ok.args,
          c.in-Ok.ensures.given,
          c.in-Ok.ensures.checks,
          no_map_so STANDARD.now _ _ _ c.map.ensures c.in-Err-read_map.ensures.fault,
        ),
        (refl, refl),
      );
      leaves = tt;
      stops = tt;
      tells = tt;
      lasts = tt;
    }

pub returns-in-Ok-read_map : goal.returns-in-Ok-read_map
returns-in-Ok-read_map g c =
    let does = c.do_asked.ensures in
    let r = c.do_asked.result.0 in
    let opened = c.do_asked.result.1 in
    let words = map (λ w. w.now) c.args.words.now in
    let args = c.in-Ok.args in
    let m = c.in-Ok-read_map.map in
    let text = c.text_said.result.now in
    let given = c.in-Ok.ensures.given in
    let fit = c.in-Ok.ensures.checks in
    let named = map_named_so STANDARD.now _ _ _ _ _ c.map.ensures c.text_said.ensures c.in-Ok-read_map.ensures.map in
    let known = g.R.Read.remaining c.args.reader.now in
    let left = g.R.Read.remaining c.do_asked.new.reader in
    let before = g.W.Write.contents c.args.writer.now in
    let after = g.W.Write.contents c.do_asked.new.writer in
    record {
      done = on_ok_weaker r (λ streams. (args, m, (given, fit, (text, named)), streams)) does.done;
      failed = IfErr-weaker r _ _ (λ f fails. failed_as STANDARD.now words known left before after f (args, m, (given, fit, (text, named)), fails)) does.failed;
      leaves = on_ok_weaker r (λ leaves. (args, m, (given, fit, (text, named)), leaves)) does.leaves;
      stops = IfErr-weaker r _ _
          (λ f stops. if_asked STANDARD.now words (λ a m. StopsStore over_files (image_at g.S.Start) m known left before after a f opened) f (args, m, (given, fit, (text, named)), stops)) does.stops;
      tells = IfSome_then opened does.tells (λ store tells. (args, m, text, given, fit, named, tells));
      lasts = IfSome_then opened does.lasts (λ store lasts. (args, m, text, given, fit, named, lasts));
    }
