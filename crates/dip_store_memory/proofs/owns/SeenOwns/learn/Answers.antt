use Rattle.std.proofs.Common.{◌≡◌, Some, rules, true}
use Rattle.dip_desk_state.specs.Rows as rows
use Rattle.dip_desk_state.specs.State.{own_at}
use Rattle.dip_store_memory.specs.Owns.{is_short}
use Rattle.dip_store_memory.proofs.Owning.{learned_own, learned_short}
use Rattle.dip_store_memory.proofs.owns.SeenOwns.learn.Goals as goal

pub returns-then-has_short_reply-clause-recalls : goal.returns-then-has_short_reply-clause-recalls
returns-then-has_short_reply-clause-recalls c s power recalls found =
    let here : Some (rows.own c.in-Some.own) ≡ own_at c.args.game.now power s = search (rules, found) in
    learned_own c.note.result s c.args.game.now power (rows.own c.in-Some.own) c.args.self.now c.note.new.self c.note.ensures.ok c.note.ensures.err here recalls

pub returns-then-has_short_reply-clause-short : goal.returns-then-has_short_reply-clause-short
returns-then-has_short_reply-clause-short c are =
    let is : is_short (rows.own c.in-Some.own).kept ≡ true = search rules in
    learned_short c.note.result c.args.game.now (rows.own c.in-Some.own) c.args.self.now c.note.new.self c.note.ensures.ok c.note.ensures.err is are
