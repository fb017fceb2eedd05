-- What the statements that test the tables read, over tables with no view.
use Rattle.std.proofs.Common.{◌≡◌, ◌∷◌, [], List, ℕ, codes, false, Ok, refl}
use Rattle.sqlite_schema.specs.declared.schema.Schema.{Schema}
use Rattle.sqlite_resolve.specs.declared.compiled.Compiled.{Compiled}
use Rattle.sqlite_tied.specs.Compute.{everything}
use Rattle.sqlite.specs.Listing.{understood, reads_listing, listing_schema}
use Rattle.reg_store_tables.specs.declared.sql.TheConstants.{STEPS}
use Rattle.reg_store_opening.specs.declared.sql.TheConstants.{VERSION, OFFICE, OLDER_OFFICE}
use Rattle.reg_store_opening.proofs.Understood.{ReadsTable, understood_is}

abbrev pub version_names : List (List ℕ)
version_names = codes "version" ∷ []

pub version_is : (schema : Schema) (unviewed : schema.views ≡ []) (c : Compiled) → understood schema VERSION.now ≡ Ok c → ReadsTable schema version_names [] c.command × (reads_listing schema VERSION.now ≡ false)
unfolding everything listing_schema
version_is schema unviewed =
    understood_is schema unviewed VERSION.now version_names [] _ _ refl refl
    (record {
      source = _;
      with = refl;
      others = refl;
      limit = refl;
      offset = refl;
      bare = record { from = refl; inner = refl; on = refl; using = refl; named = refl; shown = ((_, _, refl, refl, refl), tt); filter = refl; group = refl; having = refl; distinct = refl };
      sorted = tt;
    }) refl

abbrev pub office_names : List (List ℕ)
office_names = codes "name" ∷ codes "pubkey" ∷ codes "crl_life" ∷ codes "ocsp_life" ∷ codes "cap" ∷ codes "last_at" ∷ []

pub office_is : (schema : Schema) (unviewed : schema.views ≡ []) (c : Compiled) → understood schema OFFICE.now ≡ Ok c → ReadsTable schema office_names [] c.command × (reads_listing schema OFFICE.now ≡ false)
unfolding everything listing_schema
office_is schema unviewed =
    understood_is schema unviewed OFFICE.now office_names [] _ _ refl refl
    (record {
      source = _;
      with = refl;
      others = refl;
      limit = refl;
      offset = refl;
      bare = record {
        from = refl;
        inner = refl;
        on = refl;
        using = refl;
        named = refl;
        shown = ((_, _, refl, refl, refl), ((_, _, refl, refl, refl), ((_, _, refl, refl, refl), ((_, _, refl, refl, refl), ((_, _, refl, refl, refl), ((_, _, refl, refl, refl), tt))))));
        filter = refl;
        group = refl;
        having = refl;
        distinct = refl;
      };
      sorted = tt;
    }) refl

abbrev pub older_names : List (List ℕ)
older_names = codes "name" ∷ codes "pubkey" ∷ codes "crl_life" ∷ codes "ocsp_life" ∷ codes "cap" ∷ codes "last_at" ∷ codes "days" ∷ []

pub older_is : (schema : Schema) (unviewed : schema.views ≡ []) (c : Compiled) → understood schema OLDER_OFFICE.now ≡ Ok c → ReadsTable schema older_names [] c.command × (reads_listing schema OLDER_OFFICE.now ≡ false)
unfolding everything listing_schema
older_is schema unviewed =
    understood_is schema unviewed OLDER_OFFICE.now older_names [] _ _ refl refl
    (record {
      source = _;
      with = refl;
      others = refl;
      limit = refl;
      offset = refl;
      bare = record {
        from = refl;
        inner = refl;
        on = refl;
        using = refl;
        named = refl;
        shown = ((_, _, refl, refl, refl), ((_, _, refl, refl, refl), ((_, _, refl, refl, refl), ((_, _, refl, refl, refl), ((_, _, refl, refl, refl), ((_, _, refl, refl, refl), ((_, _, refl, refl, refl), tt)))))));
        filter = refl;
        group = refl;
        having = refl;
        distinct = refl;
      };
      sorted = tt;
    }) refl

abbrev pub steps_names : List (List ℕ)
steps_names = codes "from_at" ∷ codes "days" ∷ []

abbrev pub steps_keys : List (List ℕ)
steps_keys = codes "from_at" ∷ []

pub steps_is : (schema : Schema) (unviewed : schema.views ≡ []) (c : Compiled) → understood schema STEPS.now ≡ Ok c → ReadsTable schema steps_names steps_keys c.command × (reads_listing schema STEPS.now ≡ false)
unfolding everything listing_schema
steps_is schema unviewed =
    understood_is schema unviewed STEPS.now steps_names steps_keys _ _ refl refl
    (record {
      source = _;
      with = refl;
      others = refl;
      limit = refl;
      offset = refl;
      bare = record {
        from = refl;
        inner = refl;
        on = refl;
        using = refl;
        named = refl;
        shown = ((_, _, refl, refl, refl), ((_, _, refl, refl, refl), tt));
        filter = refl;
        group = refl;
        having = refl;
        distinct = refl;
      };
      sorted = (record { is = refl; plain = refl; nulls = refl; upwards = refl }, tt);
    }) refl
