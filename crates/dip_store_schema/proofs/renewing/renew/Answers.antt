use Rattle.std.proofs.Common.{rules, ◌≡◌, arith, inl, inr, ap, subst, sym, ◌∙◌}
use Rattle.sqlite.specs.Effect.{Database}
use Rattle.dip_desk_state.specs.Rows.{lines}
use Rattle.dip_store_sql.specs.Calls.{is_honest}
use Rattle.dip_store_sql.specs.Old.{old_tables_of}
use Rattle.dip_store_schema.specs.Renewing.{AreRead, Outgrows}
use Rattle.dip_store_schema.specs.Faults.{open_fault}
use Rattle.dip_store_schema.specs.declared.faults.StoreFault.TheVariants.{Disk}
use Rattle.dip_store_schema.proofs.Refilling.{fault_or_full}
use Rattle.dip_store_schema.proofs.Rewritten.{keeps_renewed, kept_both, kept_first, left_renewed, read_both}
use Rattle.dip_store_schema.proofs.renewing.renew.Goals as goal

pub returns-in-Ok-fill : goal.returns-in-Ok-fill
returns-in-Ok-fill g c = record {
  kept = λ kept m own clean.
      let old = c.args.conn.now in
      let a = c.old_games.new.conn in
      let b = c.old_ballots.new.conn in
      let end = c.fill.new.conn in
      let first = c.in-Ok.ensures.selects in
      let next = c.in-Ok-old_ballots.ensures.selects in
      let honest : is_honest g.S.Store b = omega (arith, clean, c.in-Ok-fill.ensures.crash.clean) in
      let read = read_both g.S.Store old a b end c.in-Ok.games c.in-Ok-old_ballots.ballots first next kept (lines c.as_slice.result.now) c.as_slice-2.result.now honest
      (λ kept fair. ap lines c.as_slice.ensures.value ∙ c.in-Ok.ensures.value kept fair) (λ kept fair. c.as_slice-2.ensures.value ∙ c.in-Ok-old_ballots.ensures.value kept fair) in
      keeps_renewed g.S.Store old a b end c.in-Ok.games c.in-Ok-old_ballots.ballots first next kept (lines c.as_slice.result.now) c.as_slice-2.result.now read m (c.old_tables_are_renewed.ensures m) own honest
      (λ good unlimited. c.in-Ok-fill.ensures.laid good unlimited clean);
  own = search rules;
  caused = search rules;
  ok = search rules;
  fair = search rules;
  shown = search rules;
  counted = search rules;
  idle = search rules;
  base = search rules;
  still = search rules;
  closes = search rules;
  left = λ kept clean.
      let old = c.args.conn.now in
      let a = c.old_games.new.conn in
      let b = c.old_ballots.new.conn in
      let end = c.fill.new.conn in
      let first = c.in-Ok.ensures.selects in
      let next = c.in-Ok-old_ballots.ensures.selects in
      let honest : is_honest g.S.Store b = omega (arith, clean, c.in-Ok-fill.ensures.crash.clean) in
      let read = read_both g.S.Store old a b end c.in-Ok.games c.in-Ok-old_ballots.ballots first next kept (lines c.as_slice.result.now) c.as_slice-2.result.now honest
      (λ kept fair. ap lines c.as_slice.ensures.value ∙ c.in-Ok.ensures.value kept fair) (λ kept fair. c.as_slice-2.ensures.value ∙ c.in-Ok-old_ballots.ensures.value kept fair) in
      left_renewed g.S.Store old a b end c.in-Ok.games c.in-Ok-old_ballots.ballots first next kept (lines c.as_slice.result.now) c.as_slice-2.result.now read c.in-Ok-fill.ensures.crash clean;
}

pub returns : goal.returns
returns g c = record {
  kept = search rules;
  own = search rules;
  caused = λ kept shows clean m ours is.
      let old = c.args.conn.now in
      let a = c.old_games.new.conn in
      let b = c.old_ballots.new.conn in
      let end = c.fill.new.conn in
      let first = c.in-Ok.ensures.selects in
      let next = c.in-Ok-old_ballots.ensures.selects in
      let honest : is_honest g.S.Store b = omega (arith, clean, c.in-Err-fill.ensures.crash.clean) in
      let early = kept_first g.S.Store old a b end c.in-Ok.games c.in-Ok-old_ballots.ballots first next kept (next.fair honest) in
      let both = kept_both g.S.Store old a b end c.in-Ok.games c.in-Ok-old_ballots.ballots first next kept honest in
      let read = read_both g.S.Store old a b end c.in-Ok.games c.in-Ok-old_ballots.ballots first next kept (lines c.as_slice.result.now) c.as_slice-2.result.now honest
      (λ kept fair. ap lines c.as_slice.ensures.value ∙ c.in-Ok.ensures.value kept fair) (λ kept fair. c.as_slice-2.ensures.value ∙ c.in-Ok-old_ballots.ensures.value kept fair) in
      let there = subst (λ (d : Database). AreRead (lines c.as_slice.result.now) c.as_slice-2.result.now (old_tables_of d.trees)) (sym both.1) read in
      let got : c.open_fault.result ≡ Disk = (let x = is in cc) in
      let told : open_fault c.in-Err-fill.error ≡ Disk = sym c.open_fault.ensures ∙ got in
      let late = fault_or_full g.S.Store _ old b end (omega (arith, first.counts, next.counts)) c.in-Err-fill.error (λ room. c.in-Err-fill.ensures.fails both.0 (next.ok early.0 honest) clean there room) told in
      elim late [
        | inl fault ↦ inl fault
        | inr full ↦ inr (subst (λ (d : Database). Outgrows d.trees) both.1 full)
      ];
  ok = search rules;
  fair = search rules;
  shown = search rules;
  counted = search rules;
  idle = search rules;
  base = search rules;
  still = search rules;
  closes = search rules;
  left = λ kept clean.
      let old = c.args.conn.now in
      let a = c.old_games.new.conn in
      let b = c.old_ballots.new.conn in
      let end = c.fill.new.conn in
      let first = c.in-Ok.ensures.selects in
      let next = c.in-Ok-old_ballots.ensures.selects in
      let honest : is_honest g.S.Store b = omega (arith, clean, c.in-Err-fill.ensures.crash.clean) in
      let read = read_both g.S.Store old a b end c.in-Ok.games c.in-Ok-old_ballots.ballots first next kept (lines c.as_slice.result.now) c.as_slice-2.result.now honest
      (λ kept fair. ap lines c.as_slice.ensures.value ∙ c.in-Ok.ensures.value kept fair) (λ kept fair. c.as_slice-2.ensures.value ∙ c.in-Ok-old_ballots.ensures.value kept fair) in
      left_renewed g.S.Store old a b end c.in-Ok.games c.in-Ok-old_ballots.ballots first next kept (lines c.as_slice.result.now) c.as_slice-2.result.now read c.in-Err-fill.ensures.crash clean;
}
