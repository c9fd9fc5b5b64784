use Rattle.std.proofs.Common.{IfErr, OnOk, rules}
use Rattle.dip_http.specs.Ends.{Answered, EndsBy}
use Rattle.std.proofs.lemmas.List.{take_rest}
use Rattle.dip_http.proofs.AnswerLemmas.{IsHeadless, fronted_part, fronted_taken, fronted_tells, fronted_whole, headless_part, headless_whole, no_front}
use Rattle.dip_http.proofs.OpenLemmas.{ends_fault, goes_open, keeps_unasked, left_weaker, none_unkept, written_kept, written_quietly}
use Rattle.dip_http.proofs.answering.answer_front.Goals as goal

pub returns-in-Head : goal.returns-in-Head
returns-in-Head g c = λ known read.
    let m = c.args.map.now in
    let b = g.K.Keeper.book in
    let front = rw c.in-Head.is at c.requires.is in
    let out = c.carry_out.ensures in
    let rest = take_rest c.args.bytes.now c.in-Head.head.size in
    let k = c.args.keeper.now in
    let left = c.carry_out.new.keeper in
    let whole : b.sound m k → b.shows left → OnOk c.carry_out.result (Answered m known (b.content m k) (b.content m left)
    (g.W.Write.contents c.args.writer.now) (g.W.Write.contents c.carry_out.new.writer)) =
    λ sound shows. fronted_whole m known _ c.args.bytes.now c.in-Head.head _ _ _ _ _ _ _ c.carry_out.result read front
    c.plan_of-plan.ensures c.is_quiet-quiet.ensures rest (out.ok sound shows) in
    let part : b.sound m k → b.shows left → IfErr c.carry_out.result (λ f. EndsBy m f known (b.content m k) (b.content m left)
    (g.W.Write.contents c.args.writer.now) (g.W.Write.contents c.carry_out.new.writer)) =
    λ sound shows. fronted_part m known _ c.args.bytes.now c.in-Head.head _ _ _ _ _ _ _ c.carry_out.result read front
    c.plan_of-plan.ensures c.is_quiet-quiet.ensures rest (out.err sound shows) in
    let tells = fronted_tells known _ c.args.bytes.now c.in-Head.head _ _ _ _ _ _ c.carry_out.result read front c.plan_of-plan.ensures c.is_quiet-quiet.ensures out.tells in
    record {
      keeps = out.keeps;
      tells = tells;
      answered = goes_open m b c.args.keeper.now c.carry_out.new.keeper _ _ _ c.carry_out.result out.keeps whole;
      ends = ends_fault m b c.args.keeper.now c.carry_out.new.keeper _ _ _ c.carry_out.result out.keeps part tells
          (λ sound fair shows. left_weaker m b c.args.keeper.now c.carry_out.new.keeper c.carry_out.result _ _
          (λ s taken. fronted_taken m known _ c.args.bytes.now c.in-Head.head _ _ _ s read front c.plan_of-plan.ensures rest taken)
          (out.left sound fair shows));
      lawful = λ it honest shows. out.lawful it.sound shows;
      never = λ it honest. out.never it.sound honest it.shows;
    }

pub returns-in-More : goal.returns-in-More
returns-in-More g c = λ known read.
    let m = c.args.map.now in
    let b = g.K.Keeper.book in
    let k = c.args.keeper.now in
    let kept = written_kept c.refuse.result c.refuse.ensures.fault in
    let keeps = keeps_unasked m b k c.refuse.result kept in
    let tells = written_quietly c.refuse.result known k _ _ c.refuse.ensures.fault in
    let none : IsHeadless known = no_front known _ c.args.bytes.now c.args.front read c.requires.settled c.requires.some c.requires.is c.in-More.is in
    let whole : b.sound m k → b.shows k → OnOk c.refuse.result (Answered m known (b.content m k) (b.content m k)
    (g.W.Write.contents c.args.writer.now) (g.W.Write.contents c.refuse.new.writer)) =
    λ sound shows. headless_whole m known _ _ _ c.refuse.result none c.refuse.ensures.ok in
    let part : b.sound m k → b.shows k → IfErr c.refuse.result (λ f. EndsBy m f known (b.content m k) (b.content m k)
    (g.W.Write.contents c.args.writer.now) (g.W.Write.contents c.refuse.new.writer)) =
    λ sound shows. headless_part m known (b.content m k) _ _ c.refuse.result none c.refuse.ensures.err c.refuse.ensures.fault in
    record {
      keeps = keeps;
      tells = tells;
      answered = goes_open m b k k _ _ _ c.refuse.result keeps whole;
      ends = ends_fault m b k k _ _ _ c.refuse.result keeps part tells (λ sound fair shows. none_unkept c.refuse.result _ kept);
      lawful = λ it honest shows lawful. lawful;
      never = search rules;
    }
