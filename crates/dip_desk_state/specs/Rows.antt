-- What the code's records say, without where they lie in memory.
use Rattle.std.specs.Prelude.{ℕ, List, map, option_map, string_bytes, String}
use Rattle.std.specs.declared.alloc.Global.{Global}
use Rattle.std.specs.declared.rc.Rc.{Rc}
use Rattle.dip_desk_state.specs.Records as r
use Rattle.dip_desk_state.specs.declared.records.Status.{Status}
use Rattle.dip_desk_state.specs.declared.records.Status.TheVariants.{Running, Paused, Closed, Ended, Won, Drawn}
use Rattle.dip_desk_state.specs.declared.records.Public.{Public}
use Rattle.dip_desk_state.specs.declared.records.Kept.{Kept}
use Rattle.dip_desk_state.specs.declared.records.Standing.{Standing}
use Rattle.dip_desk_state.specs.declared.records.Vote.{Vote}
use Rattle.dip_desk_state.specs.declared.records.Vote.TheVariants.{No, Yes, For}
use Rattle.dip_desk_state.specs.declared.records.Item.{Item}
use Rattle.dip_desk_state.specs.declared.records.Item.TheVariants.{White, Grey}
use Rattle.dip_desk_state.specs.declared.records.Own.{Own}
use Rattle.dip_desk_state.specs.declared.records.Whole.{Whole}
use Rattle.dip_desk_state.specs.declared.records.Head.{Head}
use Rattle.dip_desk_state.specs.declared.records.Reply.{Reply}

-- texts as their bytes
abbrev pub lines : List (String Global) → List (List ℕ)
lines ts = map (λ t. string_bytes t) ts

abbrev pub status : Status → r.Status
status Running = r.Running
status Paused = r.Paused
status Closed = r.Closed
status Ended = r.Ended
status (Won power) = r.Won power
status (Drawn powers) = r.Drawn powers.items

abbrev pub public : Public → r.Public
public p = record {
  game = string_bytes p.game;
  board = p.board.value;
  status = status p.status;
  due = p.due;
  period = p.period;
  grey = p.grey;
  papers = p.papers;
}

abbrev pub kept : Kept → r.Kept
kept k = record { number = k.number; sum = k.sum; reply = string_bytes k.reply.value }

abbrev pub standing : Standing → r.Standing
standing s = record { province = s.prov; line = string_bytes s.line }

abbrev pub standings : List Standing → List r.Standing
standings ss = map (λ s. standing s) ss

abbrev pub vote : Vote → r.Vote
vote No = r.No
vote Yes = r.Yes
vote (For powers) = r.For powers.items

abbrev pub item : Item → r.Item
item (White writer addressees text) = r.White (string_bytes writer) (lines addressees.items) (lines text.items)
item (Grey to_all text) = r.Grey to_all (lines text.items)

-- items as they are shown, each shared in memory
abbrev pub items : List (Rc Item Global) → List r.Item
items is = map (λ i. item i.value) is

abbrev pub own : Own → r.Own
own o = record {
  power = o.power;
  digest = o.digest;
  vote = vote o.vote;
  pending = standings o.pending.items;
  kept = option_map kept o.kept;
  sent = o.sent;
  items = o.items;
}

abbrev pub whole : Whole → r.Whole
whole w = record { public = public w.public; seats = map own w.seats.items }

abbrev pub head : Head → r.Head
head h = record { game = string_bytes h.game; sender = string_bytes h.sender; number = h.number }

abbrev pub reply : Reply → r.Reply
reply p = record { outcome = p.outcome; head = option_map head p.head; text = string_bytes p.text.value }
