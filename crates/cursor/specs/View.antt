-- What a contract sees of a lent path.
use Rattle.std.specs.Prelude.{ℕ, List, take}
use Rattle.definitions.specs.Prelude.{Result}
use Rattle.definitions.specs.Entry.{Entry}
use Rattle.definitions.specs.Query as query
use Rattle.green.specs.Store.{Store}
use Rattle.utility_types.specs.Numbers.{OrRefusal}
use Rattle.cursor.specs.declared.path.Path.{Path}
use Rattle.cursor.specs.declared.position.Cursor.{Cursor}
use Rattle.cursor.specs.declared.path.Place.{Place}
use Rattle.cursor.specs.declared.path.Remember.{Remember}
use Rattle.cursor.specs.Path.{Leads, LeadsToNode}
use Rattle.cursor.specs.Answers.{answer_at_path}

-- the indexes that lead to its element
abbrev pub indexes_of : Path → List ℕ
indexes_of p = take p.depth p.indexes.now

-- where it leads, and where if it is to lead to a node
abbrev pub PathLeads : Store → Remember → Path → OrRefusal Place → Type 0
PathLeads s remember p x = Leads s remember p.root p.depth p.indexes.now x

abbrev pub PathLeadsToNode : Store → Path → OrRefusal Cursor → Type 0
PathLeadsToNode s p x = LeadsToNode s p.root p.depth p.indexes.now x

-- what is asked of its element
abbrev pub path_answer : List Entry → Path → query.Question → Result query.Answer
path_answer es p q = answer_at_path es p.root p.depth p.indexes.now q
