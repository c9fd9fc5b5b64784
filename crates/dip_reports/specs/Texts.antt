-- The printed texts: each is a function of its record. Every line ends with LF.
use Rattle.std.specs.Prelude.{ℕ, Bool, true, false, List, [], ◌∷◌, ◌++◌, ◌==◌, ◌+◌, codes, if◌then◌else◌, map, filter, flat_map, length, Option, None, Some, Result, Ok, Err}
use Rattle.std.specs.Fmt.{decimal}
use Rattle.dip_map.specs.declared.boards.Phase.{Phase}
use Rattle.dip_map.specs.Boards.{Position, owns}
use Rattle.dip_map.specs.declared.boards.Season.{Season}
use Rattle.dip_map.specs.declared.boards.Season.TheVariants.{SpringMoves, SpringRetreats, FallMoves, FallRetreats, Winter}
use Rattle.dip_reports.specs.declared.refusals.Refusal.{Refusal}
use Rattle.dip_reports.specs.declared.refusals.Refusal.TheVariants.{Malformed, Unknown, Stale, NumberUsed, TooLong, QuotaUsed, NoGrey, GameOver, WrongSender, NotDue, NameTaken}
use Rattle.dip_desk_state.specs.Records.{Public, Own, Item, White, Grey, Head, Reply, Standing, Status, Running, Paused, Closed, Ended, Won, Drawn, Vote, No, Yes, For}
use Rattle.dip_map.specs.Charts.{Chart, powers, province, provs, realm}
use Rattle.dip_desk_state.specs.Texts.{status_text}
use Rattle.dip_letters.specs.Notes.{NoticeRequest}
use Rattle.dip_letters.specs.Notes.NoticeRequest.{Announce, Close, Pause, Period, Resume}
use Rattle.dip_orders.specs.Faults.{fault_number, fault_words}
use Rattle.dip_orders.specs.Texts.{order_text, unit_text}
use Rattle.dip_orders.specs.declared.faults.OrderFault.{OrderFault}
use Rattle.dip_orders_placed.specs.declared.placed.PlacedOrder.{PlacedOrder}
use Rattle.dip_names.specs.declared.names.Unit.{Unit}
use Rattle.dip_reports.specs.declared.board_lines.Force.{Force}

-- `S1901M` and so on: the season, the year, and M for movement, R for retreats, A for adjustment
unfoldable pub phase_text : Phase → List ℕ
phase_text p = season_text p.season (decimal p.year)
  where
    season_text : Season → List ℕ → List ℕ
    season_text SpringMoves year = codes "S" ++ year ++ codes "M"
    season_text SpringRetreats year = codes "S" ++ year ++ codes "R"
    season_text FallMoves year = codes "F" ++ year ++ codes "M"
    season_text FallRetreats year = codes "F" ++ year ++ codes "R"
    season_text Winter year = codes "W" ++ year ++ codes "A"

abbrev pub yes_or_no : Bool → List ℕ
yes_or_no b = if b then codes "YES" else codes "NO"

unfoldable pub refusal_text : Refusal → List ℕ
refusal_text Malformed = codes "L1 malformed letter"
refusal_text Unknown = codes "L2 unknown game, sender or secret"
refusal_text (Stale last) = codes "L3 stale number, last is " ++ decimal last
refusal_text (NumberUsed number) = codes "L4 number " ++ decimal number ++ codes " used by another letter"
refusal_text TooLong = codes "L5 letter over 16384 bytes"
refusal_text QuotaUsed = codes "L6 press quota used"
refusal_text NoGrey = codes "L7 no grey press here"
refusal_text GameOver = codes "L8 game over"
refusal_text WrongSender = codes "L9 command not for this sender"
refusal_text NotDue = codes "L10 tick not due"
refusal_text NameTaken = codes "L11 name taken"

-- a refusal as a reply's line
abbrev pub refusal_line : Refusal → List ℕ
refusal_line r = refusal_text r ++ codes "\n"

-- a line of ORDERS that is refused: the fault and the line's number
abbrev pub fault_line : ℕ → OrderFault → List ℕ
fault_line number fault = codes "O" ++ decimal (fault_number fault) ++ codes " line " ++ decimal number ++ codes ": "
    ++ fault_words fault ++ codes "\n"

-- a line of ORDERS that is taken: `OK` and the canonical order
abbrev pub order_line : Chart → PlacedOrder → List ℕ
order_line m o = codes "OK " ++ order_text m o ++ codes "\n"

-- what a line of ORDERS is answered
abbrev pub line_answer : Chart → ℕ → Result PlacedOrder OrderFault → List ℕ
line_answer m number (Ok o) = order_line m o
line_answer m number (Err fault) = fault_line number fault

-- the reply's line of a letter that published a paper: the paper's number
abbrev pub paper_line : ℕ → List ℕ
paper_line number = codes "OK paper " ++ decimal number ++ codes "\n"

-- the reply's line of WITHDRAW
abbrev pub withdrawn_line : List ℕ
withdrawn_line = codes "OK withdrawn\n"

-- the reply's line of press that was sent
abbrev pub press_line : List ℕ
press_line = codes "OK press\n"

-- what a seat votes for, with the powers that it names
unfoldable pub vote_text : Chart → Vote → List ℕ
vote_text m No = codes "NO"
vote_text m Yes = codes "YES"
vote_text m (For powers) = codes "FOR" ++ flat_map (λ p. codes " " ++ (realm m p).name) powers

-- the reply's line of VOTE: what the seat votes for from now on
abbrev pub vote_line : Chart → Vote → List ℕ
vote_line m v = codes "OK vote " ++ vote_text m v ++ codes "\n"

-- the reply's line of REPLACE: the power whose seat has another secret
abbrev pub replaced_line : List ℕ → List ℕ
replaced_line power = codes "OK seat " ++ power ++ codes "\n"

-- that a game has the option INTENT; nothing where it has not
abbrev pub intent_text : Bool → List ℕ
intent_text intent = if intent then codes " INTENT YES" else []

-- when the next tick is due, what may be sent, how moves are meant, and how many papers there are
unfoldable pub terms_text : Public → List ℕ
terms_text p = codes " DUE " ++ decimal p.due ++ codes " PERIOD " ++ decimal p.period ++ codes " GREY " ++ yes_or_no p.grey
    ++ intent_text p.board.intent ++ codes " PAPERS " ++ decimal p.papers

-- the game, its phase, how it stands, and its terms, ended by LF
unfoldable pub game_line : Chart → Public → List ℕ
game_line m p = codes "GAME " ++ p.game ++ codes " " ++ phase_text p.board.phase ++ codes " " ++ status_text m p.status
    ++ terms_text p ++ codes "\n"

-- a unit that a board line lists
abbrev pub force : Bool → Unit → Force
force dislodged u = record { unit = u; dislodged = dislodged }

-- the units of a power, standing and dislodged
abbrev pub forces : Position → ℕ → List Force
forces b power = map (force false) (filter (λ u. u.power == power) b.units)
    ++ map (λ d. force true d.unit) (filter (λ d. d.unit.power == power) b.dislodged)

abbrev pub in_province : List Force → ℕ → List Force
in_province fs p = filter (λ f. f.unit.place.prov == p) fs

abbrev pub by_province : Chart → List Force → List Force
by_province m fs = flat_map (in_province fs) (provs m)

-- the centres that a power owns, by province
abbrev pub centres : Chart → Position → ℕ → List ℕ
centres m b power = filter (λ p. owns b power p) (provs m)

-- texts with a separator between them, or `-` where there is none
abbrev pub joined : List ℕ → List (List ℕ) → List ℕ
joined separator [] = codes "-"
joined separator (t ∷ ts) = t ++ flat_map (λ u. separator ++ u) ts

-- a unit, with `*` after it where it is dislodged
abbrev pub force_text : Chart → Force → List ℕ
force_text m f = unit_text m f.unit ++ (if f.dislodged then codes "*" else [])

-- `power centres/units: units | centres`
unfoldable pub listing : Chart → List ℕ → List ℕ → List Force → List ℕ
listing m name owned units = name ++ codes " " ++ decimal (length owned) ++ codes "/" ++ decimal (length units) ++ codes ": "
    ++ joined (codes ", ") (map (force_text m) units) ++ codes " | " ++ joined (codes " ") (map (λ p. (province m p).code) owned) ++ codes "\n"

-- the line of a power
unfoldable pub board_line : Chart → Position → ℕ → List ℕ
board_line m b power = listing m (realm m power).name (centres m b power) (by_province m (forces b power))

-- a line for each power, by name
unfoldable pub board_lines : Chart → Position → List ℕ
board_lines m b = flat_map (board_line m b) (powers m)

-- a line of a text as it is printed, after its mark
abbrev pub marked_line : List ℕ → List ℕ
marked_line l = codes "> " ++ l ++ codes "\n"

-- a text as it is printed: each line after its mark
abbrev pub marked_lines : List (List ℕ) → List ℕ
marked_lines text = flat_map marked_line text

-- the lines of a notice: the announcement, or what was done with the game
abbrev pub notice_lines : NoticeRequest → List (List ℕ)
notice_lines Pause = codes "paused" ∷ []
notice_lines Resume = codes "resumed" ∷ []
notice_lines (Period period) = (codes "period " ++ decimal period) ∷ []
notice_lines (Announce text) = text
notice_lines Close = codes "closed" ∷ []

-- the first line of a paper that tells of no phase: its number and its kind
abbrev pub paper_title : ℕ → List ℕ → List ℕ
paper_title number kind = codes "PAPER " ++ decimal number ++ codes " " ++ kind ++ codes "\n"

-- how a paper ends: the game as it stands after it
abbrev pub paper_end : Chart → Public → List ℕ
paper_end m p = game_line m p ++ board_lines m p.board ++ codes "END\n"

-- the first paper of a game
abbrev pub opening_paper : Chart → Public → List ℕ
opening_paper m p = codes "PAPER 1 opening\n" ++ paper_end m p

-- the paper of a notice, whose number is that of all papers with it
abbrev pub notice_paper : Chart → NoticeRequest → Public → List ℕ
notice_paper m notice p = paper_title p.papers (codes "notice") ++ marked_lines (notice_lines notice) ++ paper_end m p

-- the paper of a draw, whose number is that of all papers with it
abbrev pub draw_paper : Chart → Public → List ℕ
draw_paper m p = paper_title p.papers (codes "draw") ++ paper_end m p

-- a line for each standing order
abbrev pub order_lines : List Standing → List ℕ
order_lines orders = flat_map (λ o. codes "ORDER " ++ o.line ++ codes "\n") orders

-- what a seat alone may know
abbrev pub own_lines : Chart → Own → List ℕ
own_lines m o = codes "VOTE " ++ vote_text m o.vote ++ codes "\nSENT " ++ decimal o.sent ++ codes " INBOX " ++ decimal o.items ++ codes "\n"
    ++ order_lines o.pending

-- what SHOW answers
abbrev pub show_text : Chart → Public → Own → List ℕ
show_text m p o = game_line m p ++ board_lines m p.board ++ own_lines m o

-- names, each after a space
abbrev pub spaced : List (List ℕ) → List ℕ
spaced names = flat_map (λ n. codes " " ++ n) names

-- what its reader is told of press: white from whom and to whom, grey whether to the reader alone or to all
abbrev pub item_title : Item → List ℕ
item_title (White writer addressees text) = codes "white from " ++ writer ++ codes " to" ++ spaced addressees
item_title (Grey to_all text) = codes "grey to " ++ (if to_all then codes "all" else codes "you")

-- the lines of press
abbrev pub item_lines : Item → List (List ℕ)
item_lines (White writer addressees text) = text
item_lines (Grey to_all text) = text

-- an item of an inbox under its number
unfoldable pub item_text : ℕ → Item → List ℕ
item_text number i = codes "ITEM " ++ decimal number ++ codes " " ++ item_title i ++ codes "\n" ++ marked_lines (item_lines i)

-- items one after the other, numbered from this number on
abbrev pub items_text : ℕ → List Item → List ℕ
items_text first [] = []
items_text first (i ∷ is) = item_text first i ++ items_text (first + 1) is

-- what INBOX answers: how many items the inbox has, and the items from a number on
abbrev pub inbox_text : ℕ → ℕ → List Item → List ℕ
inbox_text total first items = codes "INBOX " ++ decimal total ++ codes "\n" ++ items_text first items
