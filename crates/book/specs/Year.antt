-- The year ("Year belongs to blank and leads to gathering").
use Rattle.std.specs.Prelude.{[], ℕ}
use Rattle.table.specs.declared.calls.Call.TheVariants as call
use Rattle.power.specs.declared.component.Hours.{Hours}
use Rattle.state.specs.declared.kept.Stage.{Stage}
use Rattle.state.specs.declared.kept.Stage.TheVariants.{Blank, Gathering}
use Rattle.state.specs.declared.kept.Book.{Book}
use Rattle.state.specs.State.{Reply}
use Rattle.state.specs.State.{ranged, staged, reply_of}

-- year: 3, 4
unfoldable pub year_number_by : Stage → Hours → ℕ
year_number_by stage hours = ranged (call.Year hours) [] (staged Blank stage 0)

abbrev pub year_number : Book → Hours → ℕ
year_number b hours = year_number_by b.stage hours

-- the book of a year that begins
unfoldable pub begun : Book → Hours → Book
begun b hours =
    record {
      stage = Gathering;
      hours = hours;
      units = b.units;
      consumers = b.consumers;
      balances = b.balances;
      dmp = b.dmp;
      offers = b.offers;
      efficient = b.efficient;
      limits = b.limits;
      closing = b.closing;
    }

unfoldable pub year_of : Book → Hours → Reply
year_of b hours = reply_of (year_number b hours) b (begun b hours)
