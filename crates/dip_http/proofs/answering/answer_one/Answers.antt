use Rattle.std.proofs.Common.{◌≡◌, ◌∙◌, refl, sym, ap, length, length-append, arith, rules}
use Rattle.std.specs.Io.KnownBytes.{Consumes}
use Rattle.std.proofs.KnownBytes.{Consumes-trans}
use Rattle.dip_http.proofs.AnswerLemmas.{silence, undecided}
use Rattle.dip_http.proofs.OpenLemmas.{keeps_unasked, memory_ends, read_ends}
use Rattle.dip_http.proofs.answering.answer_one.Goals as goal

pub returns-in-Err-Read : goal.returns-in-Err-Read
returns-in-Err-Read g c =
    let m = c.args.map.now in
    let b = g.K.Keeper.book in
    rw (c.reading.invariant.keeper, c.reading.invariant.writer) record {
      keeps = keeps_unasked m b c.args.keeper.now _ tt;
      tells = (refl, refl);
      answered = λ it honest. tt;
      ends = λ it honest. read_ends m b _ _ c.args.keeper.now it;
      lawful = λ it honest shows lawful. lawful;
      never = search rules;
    }

pub returns-in-Err-Memory : goal.returns-in-Err-Memory
returns-in-Err-Memory g c =
    let m = c.args.map.now in
    let b = g.K.Keeper.book in
    rw (c.reading.invariant.keeper, c.reading.invariant.writer) record {
      keeps = keeps_unasked m b c.args.keeper.now _ tt;
      tells = refl;
      answered = λ it honest. tt;
      ends = λ it honest. memory_ends m b _ _ c.args.keeper.now it;
      lawful = λ it honest shows lawful. lawful;
      never = search rules;
    }

pub returns-then-is_empty : goal.returns-then-is_empty
returns-then-is_empty g c =
    let m = c.args.map.now in
    let b = g.K.Keeper.book in
    let r = c.in-Ok.ensures.read in
    let empty : length c.read_more.new.bytes.items ≡ 0 = search rules in
    let all = ap length r.3 in
    let parts = length-append c.reading.bytes.items r.0 in
    let none : c.in-Ok.count ≡ 0 = let size = r.1 in omega (arith, empty, all, parts, size) in
    let consumed : Consumes (g.R.Read.remaining c.args.reader.now) (g.R.Read.remaining c.read_more.new.reader) c.read_more.new.bytes.items =
    rw r.3 (Consumes-trans _ _ _ _ _ c.reading.invariant.so_far r.2) in
    let silent = silence m _ _ c.read_more.new.bytes.items (b.content m c.args.keeper.now) (g.W.Write.contents c.args.writer.now) consumed (c.in-Ok.ensures.ended none) empty in
    rw (c.reading.invariant.keeper, c.reading.invariant.writer) record {
      keeps = keeps_unasked m b c.args.keeper.now _ tt;
      tells = tt;
      answered = λ it honest. (it, silent);
      ends = λ it honest. tt;
      lawful = λ it honest shows lawful. lawful;
      never = search rules;
    }

pub returns-then-count-eq0 : goal.returns-then-count-eq0
returns-then-count-eq0 g c =
    let r = c.in-Ok.ensures.read in
    let consumed : Consumes (g.R.Read.remaining c.args.reader.now) (g.R.Read.remaining c.read_more.new.reader) c.read_more.new.bytes.items =
    rw r.3 (Consumes-trans _ _ _ _ _ c.reading.invariant.so_far r.2) in
    let lies : c.as_slice-bytes.result.now ≡ c.read_more.new.bytes.items = c.as_slice-bytes.ensures.value in
    let known = g.R.Read.remaining c.args.reader.now in
    let f = c.answer_front.ensures in
    let read : Consumes known (g.R.Read.remaining c.read_more.new.reader) c.as_slice-bytes.result.now = rw lies consumed in
    rw (c.reading.invariant.keeper, c.reading.invariant.writer) at (f known read)

pub reading-preserved : goal.reading-preserved
reading-preserved g c =
    let r = c.in-Ok.ensures.read in
    record {
      so_far = rw r.3 (Consumes-trans _ _ _ _ _ c.reading.invariant.so_far r.2);
      bound = rw c.as_slice.ensures.value at (undecided _ c.front_of-front.result c.front_of-front.ensures (sym c.is_decided.ensures ∙ c.if-is_decided.false));
      writer = c.reading.invariant.writer;
      keeper = c.reading.invariant.keeper;
    }
