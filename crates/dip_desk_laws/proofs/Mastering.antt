-- The master's replies in states that differ inside their games alone.
use Rattle.std.proofs.Common.{◌∙◌, ap, sym, subst}
use Rattle.std.specs.Prelude.{◌≡◌, ◌+◌, refl, Bool, true, false, List, ℕ, Option, None, Some, bytes_eq, codes, if◌then◌else◌}
use Rattle.dip_letters.specs.Notes.{Request}
use Rattle.dip_letters.specs.Notes.MasterRequest.{Create, Notify, Replace, Tick}
use Rattle.dip_letters.specs.Notes.Request.{Master, Player}
use Rattle.dip_map.specs.Charts.{Chart, power_of}
use Rattle.dip_desk_machine.specs.Drawing.{drawn_between}
use Rattle.dip_desk_machine.specs.Ticking.{is_due, is_over}
use Rattle.dip_desk_machine.specs.Machine.{Decides, DecidesIn, DecidesNew, IsPublished, MasterDecides, NumberedBy, OnTime, Step, Ticks, Verdict, creation, digest, has_seat, head_of, notice_verdict, old_number, power_author, refusal_verdict, replacement, reply_of}
use Rattle.dip_desk_machine.specs.Mail.{Mail}
use Rattle.dip_desk_state.specs.Records.{Kept, Public, Reply, Whole}
use Rattle.dip_desk_state.specs.State.{Author, Game, Nobody, NewSeat, State, TheMaster, game_at, whole_of}
use Rattle.dip_desk_state.specs.declared.records.Outcome.TheVariants.{Done}
use Rattle.dip_reports.specs.Texts.{paper_line}
use Rattle.dip_reports.specs.declared.refusals.Refusal.TheVariants.{GameOver, NotDue}
use Rattle.dip_desk_laws.specs.Masters.{AreMastersRepliesAlike, DifferInside, LookAlike}

-- the reply that a tick gets, by the public part alone
abbrev tick_reply : Mail → Public → (over due : Bool) → Reply
tick_reply n p true due = reply_of n (refusal_verdict GameOver)
tick_reply n p false false = reply_of n (refusal_verdict NotDue)
tick_reply n p false true = record { outcome = Done; head = Some (head_of n); text = paper_line (p.papers + 1) }

on_time : (m : Chart) (n : Mail) (tick : ℕ) (w : Whole) (v : Verdict) (o : Option (List ℕ)) → OnTime m tick w o v
    → reply_of n v ≡ tick_reply n w.public false true
on_time m n tick w v (Some powers) is = ap (reply_of n) is
on_time m n tick w v None is = ap (reply_of n) is.verdict

tick_replied : (m : Chart) (n : Mail) (tick : ℕ) (w : Whole) (over due : Bool) (v : Verdict) → Ticks m tick w over due v
    → reply_of n v ≡ tick_reply n w.public over due
tick_replied m n tick w true due v is = ap (reply_of n) is
tick_replied m n tick w false false v is = ap (reply_of n) is
tick_replied m n tick w false true v is = on_time m n tick w v (drawn_between m w) is

-- where a name is taken it doesn't matter by which game
taken_alike : (m : Chart) (p : Public) (seats : Option (List NewSeat)) (g h : Game) → creation m p seats (Some g) ≡ creation m p seats (Some h)
taken_alike m p None g h = refl
taken_alike m p (Some seats) g h = refl

in_games_alike : (m : Chart) (n : Mail) (command : Request) (g h : Game) (v w : Verdict) → DifferInside m g h
    → DecidesIn m n command g v → DecidesIn m n command h w → reply_of n v ≡ reply_of n w
in_games_alike m n (Player command) g h v w alike x y = ap (reply_of n) (x ∙ sym y)
in_games_alike m n (Master (Create due period grey intent seats)) g h v w alike x y =
    ap (reply_of n) (x ∙ taken_alike m _ _ g h ∙ sym y)
in_games_alike m n (Master (Tick tick)) g h v w alike x y =
    tick_replied m n tick (whole_of g) (is_over g.public.status) (is_due tick g.public) v x
    ∙ ap (λ (p : Public). tick_reply n p (is_over p.status) (is_due tick p)) alike.public
    ∙ sym (tick_replied m n tick (whole_of h) (is_over h.public.status) (is_due tick h.public) w y)
in_games_alike m n (Master (Replace seat)) g h v w alike x y =
    ap (reply_of n) (x ∙ ap (replacement m n.note.game seat) (alike.seated seat.power) ∙ sym y)
in_games_alike m n (Master (Notify notice)) g h v w alike x y =
    ap (reply_of n) (x ∙ ap (notice_verdict m notice) alike.public ∙ sym y)

numbered_alike : (n : Mail) (o : Option Verdict) (New Other : Verdict → Type 0) (v w : Verdict)
    → (New v → Other w → reply_of n v ≡ reply_of n w) → NumberedBy o New v → NumberedBy o Other w → reply_of n v ≡ reply_of n w
numbered_alike n None New Other v w new x y = new x y
numbered_alike n (Some old) New Other v w new x y = ap (reply_of n) (x ∙ sym y)

new_alike : (m : Chart) (n : Mail) (k : Option Kept) (command : Request) (v w : Verdict) → DecidesNew m n k command v → DecidesNew m n k command w
    → reply_of n v ≡ reply_of n w
new_alike m n k (Player command) v w x y = ap (reply_of n) (x ∙ sym y)
new_alike m n k (Master (Create due period grey intent seats)) v w x y = numbered_alike n (old_number n k) _ _ v w (λ a b. ap (reply_of n) (a ∙ sym b)) x y
new_alike m n k (Master (Tick tick)) v w x y = ap (reply_of n) (x ∙ sym y)
new_alike m n k (Master (Replace seat)) v w x y = ap (reply_of n) (x ∙ sym y)
new_alike m n k (Master (Notify notice)) v w x y = ap (reply_of n) (x ∙ sym y)

master_alike : (m : Chart) (n : Mail) (k : Option Kept) (command : Request) (one other : Option Game) (v w : Verdict) → LookAlike m one other
    → MasterDecides m n k command one v → MasterDecides m n k command other w → reply_of n v ≡ reply_of n w
master_alike m n k command None None v w alike x y = new_alike m n k command v w x y
master_alike m n k command (Some g) (Some h) v w alike x y =
    numbered_alike n (old_number n k) _ _ v w (in_games_alike m n command g h v w alike) x y
master_alike m n k command None (Some h) v w alike x y = elim alike [ ]
master_alike m n k command (Some g) None v w alike x y = elim alike [ ]

decided_alike : (m : Chart) (s t : State) (n : Mail) (knows : Bool) (v w : Verdict) → s.desk ≡ t.desk
    → LookAlike m (game_at n.note.game s) (game_at n.note.game t)
    → Decides m s n (if knows then TheMaster else Nobody) v → Decides m t n (if knows then TheMaster else Nobody) w → reply_of n v ≡ reply_of n w
decided_alike m s t n false v w desk alike x y = ap (reply_of n) (x ∙ sym y)
decided_alike m s t n true v w desk alike x y =
    master_alike m n t.desk.kept n.note.command (game_at n.note.game s) (game_at n.note.game t) v w alike
    (subst (λ d. MasterDecides m n d.kept n.note.command (game_at n.note.game s) v) desk x) y

pub replies_alike : (m : Chart) → AreMastersRepliesAlike m
replies_alike m s t n q r after_s after_t sender alike one other =
    let knows : State → Bool = λ s. bytes_eq (digest (codes "desk") (codes "master") n.note.secret) s.desk.digest in
    let mine : Decides m s n (if knows s then TheMaster else Nobody) one.0 =
    subst (λ (b : Bool). Decides m s n (if b then (if knows s then TheMaster else Nobody) else power_author n (power_of m n.note.sender) s) one.0) sender one.1 in
    let theirs : Decides m t n (if knows t then TheMaster else Nobody) other.0 =
    subst (λ (b : Bool). Decides m t n (if b then (if knows t then TheMaster else Nobody) else power_author n (power_of m n.note.sender) t) other.0) sender other.1 in
    let known : knows t ≡ knows s = ap (λ d. bytes_eq (digest (codes "desk") (codes "master") n.note.secret) d.digest) (sym alike.desk) in
    one.2
    ∙ decided_alike m s t n (knows s) one.0 other.0 alike.desk (alike.games n.note.game) mine
    (subst (λ (b : Bool). Decides m t n (if b then TheMaster else Nobody) other.0) known theirs)
    ∙ sym other.2
