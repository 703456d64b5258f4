-- What the book keeps, a fresh book, and what a reply is ("The book").
use Rattle.std.specs.Prelude.{List, ℕ, ◌+◌, ◌-◌, ◌*◌, eqb, get_or, take, drop, replicate, Option, None, Some, Result, Ok, Err}
use Rattle.basis.specs.Choice.{pick}
use Rattle.power.specs.Power.{fresh_components}
use Rattle.quantities.specs.Limits.{units, producers, consumers}
use Rattle.table.specs.Ranges.{call_number}
use Rattle.table.specs.declared.calls.Call.{Call}
use Rattle.state.specs.declared.kept.Stage.{Stage}
use Rattle.state.specs.declared.kept.Stage.TheVariants.{Blank, Gathering, Firm, Closed}
use Rattle.state.specs.declared.kept.Unit.{Unit}
use Rattle.state.specs.declared.kept.Figures.{Figures}
use Rattle.state.specs.declared.kept.Declaration.{Declaration}
use Rattle.state.specs.declared.kept.Declaration.TheVariants.{Undeclared, Declared}
use Rattle.state.specs.declared.kept.Consumer.{Consumer}
use Rattle.state.specs.declared.kept.CloseFigures.{CloseFigures}
use Rattle.state.specs.declared.kept.Book.{Book}
use Rattle.quantities.specs.declared.refusals.Refusal.{Refusal}
use Rattle.quantities.specs.Refusals.{refusal_number}

-- a unit that is not enrolled
abbrev pub fresh_unit : Unit
fresh_unit = record { enrolment = None; components = fresh_components }

-- a consumer without declaration, reading and mean
abbrev pub fresh_consumer : Consumer
fresh_consumer = record { declaration = Undeclared; reading = None; mean = None }

-- what a cell of the balances holds at most: 32 bits
abbrev pub greatest_cell : ℕ
greatest_cell = 4294967295

-- a cell for each producer and consumer
abbrev pub cells : ℕ
cells = producers * consumers

-- the figures of no close
abbrev pub no_figures : CloseFigures
no_figures =
    record {
      adjusted = replicate consumers 0;
      charges = replicate consumers 0;
      credits = replicate consumers 0;
      charged = 0;
      credited = 0;
      undistributed = 0;
    }

-- "A fresh book is blank, with no unit, test, availability, declaration, contract or reading", and no mean
unfoldable pub fresh_book : Book
fresh_book =
    record {
      stage = Blank;
      hours = record { nhrm = 0; nhmd = 0; ndhmd = 0 };
      units = replicate units fresh_unit;
      consumers = replicate consumers fresh_consumer;
      balances = replicate cells 0;
      dmp = 0;
      offers = replicate units 0;
      efficient = replicate units 0;
      limits = replicate producers 0;
      closing = no_figures;
    }

abbrev pub unit_at : List Unit → ℕ → Unit
unit_at us u = get_or us (u - 1) fresh_unit

abbrev pub consumer_at : List Consumer → ℕ → Consumer
consumer_at xs c = get_or xs (c - 1) fresh_consumer

-- the figures of who declared
abbrev pub figures_of : Declaration → Option Figures
figures_of Undeclared = None
figures_of (Declared f) = Some f

-- the firm demand in a declaration; "the undeclared have 0"
abbrev pub firm_demand_by : Declaration → ℕ
firm_demand_by Undeclared = 0
firm_demand_by (Declared f) = f.df

-- where the balance of a producer and a consumer stands
abbrev pub cell_of : ℕ → ℕ → ℕ
cell_of p c = (p - 1) * consumers + (c - 1)

-- the balances of a producer
abbrev pub row_of : List ℕ → ℕ → List ℕ
row_of balances p = take consumers (drop ((p - 1) * consumers) balances)

abbrev pub stage_number : Stage → ℕ
stage_number Blank = 0
stage_number Gathering = 1
stage_number Firm = 2
stage_number Closed = 3

-- the book with other units, consumers or balances
abbrev pub with_units : Book → List Unit → Book
with_units b us = record b { units = us }

abbrev pub with_consumers : Book → List Consumer → Book
with_consumers b xs = record b { consumers = xs }

abbrev pub with_balances : Book → List ℕ → Book
with_balances b l = record b { balances = l }

-- number 3 comes first, for every call: what the ranges answer, and the rest if they answer 0
abbrev pub ranged : Call → List ℕ → ℕ → ℕ
ranged c readings rest = pick (eqb (call_number c readings) 0) rest (call_number c readings)

-- then number 4: the call belongs to the other stage
abbrev pub staged : Stage → Stage → ℕ → ℕ
staged own stage rest = pick (eqb (stage_number stage) (stage_number own)) rest 4

-- what a call comes to: its number, 0 if accepted, and the book after it; of a component `Answer` says the same, and names what it holds
pub record Reply : Type 0 where
  pub number : ℕ
  pub book : Book

-- a number, and a book
abbrev pub reply_with : ℕ → Book → Reply
reply_with number b = record { number = number; book = b }

-- "a refused call returns its number and the old book"
abbrev pub reply_of : ℕ → Book → Book → Reply
reply_of number old new = record { number = number; book = pick (eqb number 0) new old }

-- what the answer to a call on the old book tells
abbrev pub replied : Book → Result Book Refusal → Reply
replied old (Ok new) = record { number = 0; book = new }
replied old (Err refusal) = record { number = refusal_number refusal; book = old }
