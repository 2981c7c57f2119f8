-- The book: its sheets, and what comes of a line.
use Rattle.std.specs.Prelude.{◌≡◌, ℕ, List, Ok, Err, Result}
use Rattle.leads.specs.declared.Turn.{Turn}
use Rattle.leads.specs.declared.Ends.{Ends}
use Rattle.picks.specs.declared.Pick.{Pick}
use Rattle.sheet.specs.Frame.{Keeps, RefusedUnchanged}
use Rattle.sheet.specs.State.{State, new_sheet}
use Rattle.sheet.specs.Calls.{Outcome, refused}
use Rattle.sheet.specs.View.{view}
use Rattle.sheet.specs.Words.{sheet_read}
use Rattle.lines.specs.Faults.{line_number}
use Rattle.lines.specs.Said.{Heard, Said, parse}
use Rattle.lines.specs.declared.fault.LineFault.{LineFault}
use Rattle.lines.specs.declared.line.SheetName.{SheetName}
use Rattle.lines.specs.declared.line.SheetName.TheVariants as sheets
use Rattle.book.specs.Answers.{line_taken}
use Rattle.book.specs.Kinds.{leads_kind, phases_kind, drums_kind, temps_kind}
use Rattle.book.specs.declared.book.Book as code

-- the sheets of a book
pub record Sheets : Type 0 where
  pub leads : State Turn Ends
  pub phases : State ℕ ℕ
  pub drums : State ℕ Pick
  pub temps : State ℕ Pick

abbrev pub new_book : Sheets
new_book = record {
  leads = new_sheet leads_kind 0 64 64;
  phases = new_sheet phases_kind 1 64 64;
  drums = new_sheet drums_kind 2 64 64;
  temps = new_sheet temps_kind 3 64 64;
}

abbrev pub book_view : code.Book → Sheets
book_view b = record { leads = view b.leads; phases = view b.phases; drums = view b.drums; temps = view b.temps }

pub record BookTaken : Type 0 where
  pub outcome : Outcome
  pub left : Sheets

abbrev pub sheet_taken : Sheets → SheetName → Said → BookTaken
sheet_taken b sheets.Leads l = record {
  outcome = (line_taken leads_kind b.leads l).outcome;
  left = record { leads = (line_taken leads_kind b.leads l).left; phases = b.phases; drums = b.drums; temps = b.temps };
}
sheet_taken b sheets.Phases l = record {
  outcome = (line_taken phases_kind b.phases l).outcome;
  left = record { leads = b.leads; phases = (line_taken phases_kind b.phases l).left; drums = b.drums; temps = b.temps };
}
sheet_taken b sheets.Drums l = record {
  outcome = (line_taken drums_kind b.drums l).outcome;
  left = record { leads = b.leads; phases = b.phases; drums = (line_taken drums_kind b.drums l).left; temps = b.temps };
}
sheet_taken b sheets.Temps l = record {
  outcome = (line_taken temps_kind b.temps l).outcome;
  left = record { leads = b.leads; phases = b.phases; drums = b.drums; temps = (line_taken temps_kind b.temps l).left };
}

abbrev pub heard_taken : Sheets → Result Heard LineFault → BookTaken
heard_taken b (Ok h) = sheet_taken b h.sheet h.said
heard_taken b (Err e) = record { outcome = refused (line_number e); left = b }

-- what comes of a line, which is a text without its line feed
abbrev pub book_taken : Sheets → List ℕ → BookTaken
book_taken b text = heard_taken b (parse text)

-- two books that are the same to whoever reads relations and sets through their words
pub record SameBook (b c : Sheets) : Type 0 where
  pub leads : sheet_read leads_kind b.leads ≡ sheet_read leads_kind c.leads
  pub phases : sheet_read phases_kind b.phases ≡ sheet_read phases_kind c.phases
  pub drums : sheet_read drums_kind b.drums ≡ sheet_read drums_kind c.drums
  pub temps : sheet_read temps_kind b.temps ≡ sheet_read temps_kind c.temps

-- the line came to the outcome o and left the book b'
pub record BookStep (b : Sheets) (text : List ℕ) (o : Outcome) (b' : Sheets) : Type 0 where
  pub outcome : o ≡ (book_taken b text).outcome
  pub left : SameBook b' (book_taken b text).left

-- every sheet keeps what a call does not touch, and lies in the memory that it lay in
pub record BookKeeps (a b : code.Book) : Type 0 where
  pub leads : Keeps a.leads b.leads
  pub phases : Keeps a.phases b.phases
  pub drums : Keeps a.drums b.drums
  pub temps : Keeps a.temps b.temps

-- a refusal leaves every node and every log entry of every sheet as it was
pub record BookUnchanged {T E : Type 0} (r : Result T E) (a b : code.Book) : Type 0 where
  pub leads : RefusedUnchanged r a.leads b.leads
  pub phases : RefusedUnchanged r a.phases b.phases
  pub drums : RefusedUnchanged r a.drums b.drums
  pub temps : RefusedUnchanged r a.temps b.temps
