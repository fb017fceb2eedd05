-- The tables and indexes of the register: columns, keys, references and CHECKs.
use Rattle.std.specs.Prelude.{ℕ, pos, Bool, true, false, List, [], ◌∷◌, map, codes, Option, Some, None}
use Rattle.sqlite_value.specs.declared.value.Value.TheVariants.{Null, Int}
use Rattle.sqlite_value.specs.declared.keys.Collation.TheVariants.{Binary}
use Rattle.sqlite_value.specs.Keys.{plain}
use Rattle.sqlite_sql.specs.Term.{Term, lit, col, op2}
use Rattle.sqlite_sql.specs.declared.ops.BinaryOp.TheVariants.{Compare}
use Rattle.sqlite_sql.specs.declared.ops.CompareOp.TheVariants.{Eq}
use Rattle.sqlite_schema.specs.declared.schema.Kind.{Kind}
use Rattle.sqlite_schema.specs.declared.schema.Kind.TheVariants.{Integer, Text, Blob}
use Rattle.sqlite_schema.specs.declared.schema.Action.TheVariants.{NoAction}
use Rattle.sqlite_schema.specs.declared.schema.Column.{Column}
use Rattle.sqlite_schema.specs.declared.schema.Reference.{Reference}
use Rattle.sqlite_schema.specs.declared.schema.Table.{Table}
use Rattle.sqlite_schema.specs.declared.schema.Index.{Index}
use Rattle.sqlite_schema.specs.declared.schema.Schema.{Schema}
use Rattle.sqlite_catalog.specs.Change.{created, indexed}

-- a column of a STRICT table, without a default; `not_null`: it is NOT NULL
abbrev pub column_of : List ℕ → Kind → Bool → Column
column_of name kind not_null =
    record {
      name = name;
      kind = kind;
      is_strict = true;
      not_null = not_null;
      default = Null;
      collation = Binary;
    }

abbrev pub required : List ℕ → Kind → Column
required name kind = column_of name kind true

-- the INTEGER PRIMARY KEY of a table, which is its rowid
abbrev pub key_column : List ℕ → Column
key_column name = column_of name Integer false

-- the column with this number, from 1 on, refers to the column of another table
abbrev pub refers : ℕ → List ℕ → List ℕ → Reference
refers place parent parent_column = record {
  columns = place ∷ [];
  parent = parent;
  parent_columns = parent_column ∷ [];
  on_delete = NoAction;
  on_update = NoAction;
  is_deferred = false;
}

-- a table: its columns; the index of the column that is its rowid; by the numbers of columns (0 is the rowid), its PRIMARY KEY and each
-- UNIQUE; its CHECKs and references
abbrev pub table_of : List ℕ → ℕ → List Column → Option ℕ → List ℕ → List (List ℕ) → List Term
    → List Reference → Table
table_of name tree columns key primary uniques checks references = record {
  name = name;
  tree = tree;
  columns = columns;
  key = key;
  primary = primary;
  uniques = uniques;
  orders = map (λ _. plain) uniques;
  checks = checks;
  references = references;
  computed = [];
  stamps = record { places = []; terms = []; formats = [] };
  is_counted = false;
}

-- the CHECK that column 0 of a row, its rowid, is 1
abbrev pub only_one : List Term
only_one = op2 (Compare Eq Binary) (col 1 0) (lit (Int (pos 1))) ∷ []

abbrev pub office : Table
office = table_of (codes "office") 0
    (key_column (codes "one")
    ∷ required (codes "version") Integer
    ∷ required (codes "name") Blob
    ∷ required (codes "pubkey") Blob
    ∷ required (codes "days") Integer
    ∷ required (codes "crl_life") Integer
    ∷ required (codes "ocsp_life") Integer
    ∷ required (codes "cap") Integer
    ∷ required (codes "last_at") Integer
    ∷ [])
    (Some 0) (0 ∷ []) [] only_one []

abbrev pub subscriber : Table
subscriber =
    table_of (codes "subscriber") 1 (key_column (codes "id") ∷ required (codes "name") Text ∷ []) (Some 0)
    (0 ∷ []) ((2 ∷ []) ∷ []) [] []

abbrev pub orders : Table
orders = table_of (codes "orders") 3
    (key_column (codes "id") ∷ required (codes "subscriber") Integer ∷ required (codes "days") Integer ∷ [])
    (Some 0) (0 ∷ []) [] [] (refers 2 (codes "subscriber") (codes "id") ∷ [])

abbrev pub cert : Table
cert = table_of (codes "cert") 4
    (required (codes "serial") Blob
    ∷ required (codes "order_id") Integer
    ∷ required (codes "not_before") Integer
    ∷ required (codes "not_after") Integer
    ∷ [])
    None (1 ∷ []) ((1 ∷ []) ∷ (2 ∷ []) ∷ []) [] (refers 2 (codes "orders") (codes "id") ∷ [])

abbrev pub request : Table
request = table_of (codes "request") 7
    (key_column (codes "id")
    ∷ required (codes "serial") Blob
    ∷ required (codes "ground") Integer
    ∷ required (codes "received") Integer
    ∷ required (codes "declined") Integer
    ∷ [])
    (Some 0) (0 ∷ []) [] [] (refers 2 (codes "cert") (codes "serial") ∷ [])

abbrev pub revocation : Table
revocation = table_of (codes "revocation") 8
    (required (codes "serial") Blob
    ∷ required (codes "at") Integer
    ∷ required (codes "reason") Integer
    ∷ required (codes "request") Integer
    ∷ required (codes "first_crl") Integer
    ∷ [])
    None (1 ∷ []) ((1 ∷ []) ∷ (4 ∷ []) ∷ []) []
    (refers 1 (codes "cert") (codes "serial") ∷ refers 4 (codes "request") (codes "id") ∷ [])

abbrev pub crl : Table
crl = table_of (codes "crl") 11
    (key_column (codes "number") ∷ required (codes "this_update") Integer ∷ required (codes "der") Blob ∷ [])
    (Some 0) (0 ∷ []) [] [] []

abbrev pub standing : Table
standing = table_of (codes "standing") 12
    (required (codes "serial") Blob ∷ required (codes "not_after") Integer
    ∷ required (codes "state") Text ∷ [])
    None (1 ∷ []) ((1 ∷ []) ∷ []) [] (refers 1 (codes "cert") (codes "serial") ∷ [])

abbrev pub kept : Table
kept = table_of (codes "kept") 14
    (key_column (codes "one")
    ∷ required (codes "n_good") Integer
    ∷ required (codes "n_revoked") Integer
    ∷ required (codes "n_expired") Integer
    ∷ [])
    (Some 0) (0 ∷ []) [] only_one []

abbrev pub listed : Table
listed = table_of (codes "listed") 15
    (required (codes "serial") Blob
    ∷ required (codes "at") Integer
    ∷ required (codes "reason") Integer
    ∷ required (codes "first_crl") Integer
    ∷ required (codes "not_after") Integer
    ∷ column_of (codes "last_listed") Integer false
    ∷ [])
    None (1 ∷ []) ((1 ∷ []) ∷ []) [] (refers 1 (codes "revocation") (codes "serial") ∷ [])

abbrev pub longest : Table
longest = table_of (codes "longest") 17
    (key_column (codes "from_at") ∷ required (codes "days") Integer ∷ [])
    (Some 0) (0 ∷ []) [] [] []

-- an index of a table, not unique, by the numbers of its columns; 0 is the rowid
abbrev pub index_of : List ℕ → Table → List ℕ → Index
index_of name table places =
    record { name = name; tree = 0; table = table.tree; columns = places; order = plain; is_unique = false }

-- crl (number, this_update)
abbrev pub crl_at : Index
crl_at = index_of (codes "crl_at") crl (0 ∷ 2 ∷ [])

-- standing (state, not_after)
abbrev pub standing_due : Index
standing_due = index_of (codes "standing_due") standing (3 ∷ 2 ∷ [])

abbrev pub no_schema : Schema
no_schema = record { tables = []; indexes = []; views = [] }

-- the tables of the office and the records, in the order in which they are made
abbrev pub record_tables : Schema
record_tables =
    created (created (created (created (created (created (created no_schema office) subscriber) orders) cert)
    request) revocation) crl

-- those tables, and then the derived tables
abbrev pub with_derived_tables : Schema
with_derived_tables = created (created (created record_tables standing) kept) listed

-- those tables, then the derived tables, then the schedule
abbrev pub all_tables : Schema
all_tables = created (created (created (created record_tables standing) kept) listed) longest

-- the schema of a register: all tables, and then the indexes
unfoldable pub register_schema : Schema
register_schema = indexed (indexed all_tables crl crl_at) standing standing_due

-- the numbers of the B-trees of a register's tables, in the order of the schema
abbrev pub table_trees : List ℕ
table_trees = 0 ∷ 1 ∷ 3 ∷ 4 ∷ 7 ∷ 8 ∷ 11 ∷ 12 ∷ 14 ∷ 15 ∷ 17 ∷ []
