use Rattle.dip_desk_state.specs.ChangeRows as desk_rows
use Rattle.dip_store_memory.specs.Owns.{is_short}
use Rattle.dip_store_memory.proofs.Owning.{letter_recalls, letter_short, owned}
use Rattle.dip_store_memory.proofs.owns.SeenOwns.put_after.Goals as goal

pub returns-clause-recalls : goal.returns-clause-recalls
returns-clause-recalls c s recalls all =
    letter_recalls c.put.result (desk_rows.change c.args.change.now) s c.as_str.result.now c.as_str.ensures.value (λ o. is_short o.kept)
    (owned c.args.owns) (owned c.reach_owns.new.owns) (owned c.short_owns-short.result) c.args.self.now c.put.new.self c.requires
    c.in_ok-reach_owns.ensures c.short_owns-short.ensures c.put.ensures.ok c.put.ensures.err recalls all

pub returns-clause-short : goal.returns-clause-short
returns-clause-short c are =
    letter_short c.put.result c.as_str.result.now (owned c.reach_owns.new.owns) (owned c.short_owns-short.result) c.args.self.now c.put.new.self
    c.short_owns-short.ensures c.put.ensures.ok c.put.ensures.err are
