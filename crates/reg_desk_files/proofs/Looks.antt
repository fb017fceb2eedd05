-- The content of files before a database is opened in them.
use Rattle.std.proofs.Common.{◌≡◌, ◌≤◌, ◌↔◌, ℕ, List, length, slice_index, Some, None, Bool, false, IsTrue, refl, subst, ◌∙◌, arith}
use Rattle.std.proofs.lemmas.Bool.{iff_false}
use Rattle.sqlite_pages.specs.PageMap.{PageMap}
use Rattle.sqlite_pool.specs.Stored.{reserved, stored_size}
use Rattle.sqlite_pool.proofs.ProbeLemmas.{reserved_word}
use Rattle.sqlite_trees.specs.Tree.{Trees}
use Rattle.sqlite_wal.specs.Format.{be32}
use Rattle.sqlite_wal.specs.PageSize.{bytes_of, size_in_file, Names}
use Rattle.sqlite_wal.specs.Recovery.{Image, IsIgnored}
use Rattle.sqlite_wal.specs.Recovery as raw
use Rattle.sqlite_wal.specs.declared.page_size.PageSize.{PageSize}
use Rattle.sqlite.specs.Files.{HoldsDatabase}
use Rattle.sqlite.proofs.FileLemmas.{probe_finds, probe_size}

-- if files hold a database with pages of this size, the first page that is found begins with the S of SQLite
pub begins_with_letter : (image : Image) (size : ℕ) (head : ℕ × ℕ)
    → ((pages : PageMap) (first : List ℕ) → raw.Recovers size image pages → pages 1 ≡ Some first → length first ≡ size → (head.0 ≡ slice_index first 0) × (head.1 ≡ be32 first 20))
    → (db : Trees) (held : HoldsDatabase image db) → stored_size held.0 ≡ size → head.0 ≡ 83
begins_with_letter image size head value db held is =
    let few : reserved held.0 ≤ 8 = grind arith in
    let found = held.2.found in
    let page = reserved_word held.0 _ _ found (omega (arith, held.1.0)) held.2.ours.file.sound in
    (value found.stored page.0 (subst (λ n. raw.Recovers n image found.stored) is found.found) page.1 (page.2 ∙ is)).0 ∙ page.4

-- if files hold no database with pages of the size that they name, they hold no database
pub holds_none : (old new : Image) (size : PageSize) → new ≡ old → (¬ IsIgnored old.log → Names (Some size) (be32 old.log 8)) → (IsIgnored old.log → Names (Some size) (size_in_file old.db))
    → ((db : Trees) (held : HoldsDatabase new db) → ¬ (stored_size held.0 ≡ bytes_of size)) → (db : Trees) → ¬ HoldsDatabase old db
holds_none old new size same by_log by_file other db held =
    let there = subst (λ (i : Image). (db : Trees) (h : HoldsDatabase i db) → ¬ (stored_size h.0 ≡ bytes_of size)) same other in
    there db held (probe_size old (Some size) by_log by_file db held size refl)

-- nor do files that name no page size
pub names_none : (image : Image) → (¬ IsIgnored image.log → Names None (be32 image.log 8)) → (IsIgnored image.log → Names None (size_in_file image.db)) → (db : Trees) → ¬ HoldsDatabase image db
names_none image by_log by_file db held = probe_finds image None by_log by_file db held refl

-- if a test for a proposition is false, another proposition that is false is equivalent to it
pub neither : {b : Bool} {P Q : Type 0} → (IsTrue b ↔ P) → b ≡ false → ¬ Q → Q ↔ P
neither both is_not other = (λ is. absurd (other is), λ p. absurd (iff_false both is_not p))
