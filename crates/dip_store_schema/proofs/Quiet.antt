-- A call that changes nothing is a query of rows that are kept.
use Rattle.std.proofs.Common.{◌≡◌, IsTrue, inl, inr, Result, Ok, Err, OnOk, sym, ◌∙◌, arith}
use Rattle.sqlite.specs.Store.{Ghosts}
use Rattle.sqlite.specs.Held.{Held, state}
use Rattle.sqlite.specs.Schema.{Schema}
use Rattle.sqlite.specs.State.{HasCleanDisk}
use Rattle.dip_store_sql.specs.Calls.{SelectsFrom, does_show, is_honest}
use Rattle.dip_store_sql.proofs.Selecting.{IsLasting}
use Rattle.dip_store_schema.specs.Alone.{LeavesAlone}

module _ {S X E : Type 0} {schema : Schema} {Kept : Held S → Type 0} (g : Ghosts S) (lasting : IsLasting schema Kept g) (old new : Held S) (r : Result X E) (alone : LeavesAlone g old new r) where
  seen_same : Kept old → does_show g new → (state g new).now ≡ (state g old).now
  seen_same kept shows = elim (alone.shows shows.0 shows.1) [ inl now ↦ now | inr base ↦ base ∙ sym (lasting.settled old kept) ]

  kept_still : Kept old → does_show g new → Kept new
  kept_still kept shows = lasting.lasts old new kept (seen_same kept shows) ((alone.keeps shows.0).committed shows.1) alone.mode alone.survives.limit

  shows_on : (q : Result X E) → (HasCleanDisk (state g new) → OnOk q (IsTrue (state g new).is_open)) → is_honest g new → OnOk q (does_show g new)
  shows_on (Ok x) up clean = (clean, up clean)
  shows_on (Err e) up clean = tt

  pub alone_selects : (HasCleanDisk (state g new) → OnOk r (IsTrue (state g new).is_open)) → SelectsFrom Kept g old new r
  alone_selects up = record {
    fair = λ clean. omega (arith, clean, alone.survives.clean);
    shown = λ shows. (omega (arith, shows.0, alone.survives.clean), (alone.keeps shows.0).was_open shows.1);
    mode = alone.mode;
    counts = alone.survives.counts;
    kept = kept_still;
    same = seen_same;
    ok = λ kept clean. shows_on r up clean;
    closes = λ clean shows. elim (alone.survives.closes clean shows.1) [ inl still ↦ inl (clean, still) | inr more ↦ inr more ];
    left = λ kept clean db may. elim (alone.survives.crash clean db may) [ inl before ↦ before | inr none ↦ absurd none ];
  }
