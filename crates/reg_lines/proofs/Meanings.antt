-- Lemmas on the meaning of a line: what is read from its fields is what they spell.
use Rattle.std.proofs.Common.{◌≡◌, ℕ, Bool, true, false, cond, List, [], ◌∷◌, Option, Some, None, option_map, refl, sym, ap, ◌∙◌, subst}
use Rattle.std.specs.Prelude.{bytes_eq, codes, IfNone, IfSome, option_and_then}
use Rattle.std.proofs.lemmas.Slice.Eq.{bytes_eq-Decides}
use Rattle.reg_core.specs.Calendar.{moment_of, moment_text}
use Rattle.reg_core.specs.Label.{label_of}
use Rattle.reg_core.specs.Number.{IsNumberText, number_of}
use Rattle.reg_core.specs.Serial.{IsSerialText, serial_of}
use Rattle.reg_core.proofs.PublicLaws.{label_of-is, label_of-some, numbers_are_read, serials_are_read, moment_of-some, moment_of-text}
use Rattle.reg_core.specs.declared.command.Command.{Command}
use Rattle.reg_core.specs.declared.command.Command.TheVariants.{Subscriber, Order, Register, Request, Decline, Revoke, Crl as IssueCrl}
use Rattle.reg_core.specs.declared.command.Query.{Query}
use Rattle.reg_core.specs.declared.command.Query.TheVariants.{Status, Counts, Listing, Overdue, NextCrl}
use Rattle.reg_lines.specs.Fields.{fields_of}
use Rattle.reg_lines.specs.Meaning.{Meaning, means_command, means_query, is_ocsp_line, IsUnreadable, LineMeans, OneMeaning, SpellsCommand, SpellsOcsp, SpellsQuery, SpellsRegister, meaning_of}
use Rattle.reg_lines.specs.LineReading.{alone, query_by, four, hex_of, number_alone, ocsp_of, one, order_of, register_by, register_of, request_of, revoking_by, meaning_by, meaning_in_fields, serial_alone, subscriber_of, two}
use Rattle.reg_lines.specs.declared.line.ParsedLine.{ParsedLine}
use Rattle.reg_lines.proofs.Readings.{hex_of-is, hex_of-some}

-- ---- steps that may fail

and_then_some : {A B : Type 0} (f : A → Option B) (o : Option A) (b : B) → option_and_then f o ≡ Some b → (a : A) × (o ≡ Some a) × (f a ≡ Some b)
and_then_some f None b e = cc e
and_then_some f (Some a) b e = (a, refl, e)

map_some : {A B : Type 0} (f : A → B) (o : Option A) (b : B) → option_map f o ≡ Some b → (a : A) × (o ≡ Some a) × (f a ≡ b)
map_some f None b e = cc e
map_some f (Some a) b e = let same : f a ≡ b = cc in (a, refl, same)

one_is : (fields : List (List ℕ)) (a : List ℕ) → one fields ≡ Some a → fields ≡ a ∷ []
one_is [] a e = cc e
one_is (x ∷ []) a e = let same : x ≡ a = cc in ap (λ l. l ∷ []) same
one_is (x ∷ y ∷ rest) a e = cc e

two_is : (fields : List (List ℕ)) (p : List ℕ × List ℕ) → two fields ≡ Some p → fields ≡ p.0 ∷ p.1 ∷ []
two_is [] p e = cc e
two_is (x ∷ []) p e = cc e
two_is (x ∷ y ∷ []) p e = let same : (x, y) ≡ p = cc in ap (λ (q : List ℕ × List ℕ). q.0 ∷ q.1 ∷ []) same
two_is (x ∷ y ∷ z ∷ rest) p e = cc e

four_is : (fields : List (List ℕ)) (p : List ℕ × List ℕ × List ℕ × List ℕ) → four fields ≡ Some p → fields ≡ p.0 ∷ p.1 ∷ p.2 ∷ p.3 ∷ []
four_is [] p e = cc e
four_is (x ∷ []) p e = cc e
four_is (x ∷ y ∷ []) p e = cc e
four_is (x ∷ y ∷ z ∷ []) p e = cc e
four_is (x ∷ y ∷ z ∷ w ∷ []) p e = let same : (x, y, z, w) ≡ p = cc in ap (λ (q : List ℕ × List ℕ × List ℕ × List ℕ). q.0 ∷ q.1 ∷ q.2 ∷ q.3 ∷ []) same
four_is (x ∷ y ∷ z ∷ w ∷ v ∷ rest) p e = cc e

alone_is : {A : Type 0} (value v : A) (fields : List (List ℕ)) → alone value fields ≡ Some v → (fields ≡ []) × (value ≡ v)
alone_is value v [] e = let same : value ≡ v = cc in (refl, same)
alone_is value v (a ∷ rest) e = cc e

-- ---- what is read is what is spelled

number_of-is : (text : List ℕ) (n : ℕ) → number_of text ≡ Some n → IsNumberText text n
number_of-is text n = (numbers_are_read text n).0

number_of-some : (text : List ℕ) (n : ℕ) → IsNumberText text n → number_of text ≡ Some n
number_of-some text n = (numbers_are_read text n).1

serial_of-is : (text : List ℕ) (n : ℕ) → serial_of text ≡ Some n → IsSerialText text n
serial_of-is text n = (serials_are_read text n).0

serial_of-some : (text : List ℕ) (n : ℕ) → IsSerialText text n → serial_of text ≡ Some n
serial_of-some text n = (serials_are_read text n).1

abbrev after : List ℕ → List (List ℕ) → List (List ℕ)
after word fields = word ∷ fields

-- a reading that is there, with what it is of
subscriber_spelled : (fields : List (List ℕ)) (c : Command) → subscriber_of fields ≡ Some c → SpellsCommand c (codes "subscriber" ∷ fields)
unfolding subscriber_of
subscriber_spelled fields c e =
    let (a, is_one, e1) = and_then_some _ (one fields) c e in
    let (name, is_label, e2) = and_then_some _ (label_of a) c e1 in
    let found = label_of-some a name is_label in
    let made : Subscriber name ≡ c = cc in
    subst (λ v. SpellsCommand v (codes "subscriber" ∷ fields)) made
    (ap (after (codes "subscriber")) (one_is fields a is_one ∙ ap (λ l. l ∷ []) found.0), found.1)

order_spelled : (fields : List (List ℕ)) (c : Command) → order_of fields ≡ Some c → SpellsCommand c (codes "order" ∷ fields)
unfolding order_of
order_spelled fields c e =
    let (p, is_two, e1) = and_then_some _ (two fields) c e in
    let (subscriber, first, e2) = and_then_some _ (number_of p.0) c e1 in
    let (days, second, e3) = and_then_some _ (number_of p.1) c e2 in
    let made : Order subscriber days ≡ c = cc in
    subst (λ v. SpellsCommand v (codes "order" ∷ fields)) made
    (p.0, p.1, ap (after (codes "order")) (two_is fields p is_two), number_of-is p.0 subscriber first, number_of-is p.1 days second)

pub register_spelled : (fields : List (List ℕ)) (c : Command) → register_of fields ≡ Some c → SpellsCommand c (codes "register" ∷ fields)
unfolding register_of register_by
register_spelled fields c e =
    let (p, is_four, e1) = and_then_some register_by (four fields) c e in
    let (order, first, e2) = and_then_some _ (number_of p.0) c e1 in
    let (serial, second, e3) = and_then_some _ (serial_of p.1) c e2 in
    let (not_before, third, e4) = and_then_some _ (moment_of p.2) c e3 in
    let (not_after, fourth, e5) = and_then_some _ (moment_of p.3) c e4 in
    let begins = moment_of-some p.2 not_before third in
    let ends = moment_of-some p.3 not_after fourth in
    let made : Register order serial not_before not_after ≡ c = cc in
    let all : fields ≡ p.0 ∷ p.1 ∷ moment_text not_before ∷ moment_text not_after ∷ [] =
    four_is fields p is_four ∙ ap (λ (t : List ℕ). p.0 ∷ p.1 ∷ t ∷ p.3 ∷ []) begins.1 ∙ ap (λ (t : List ℕ). p.0 ∷ p.1 ∷ moment_text not_before ∷ t ∷ []) ends.1 in
    subst (λ v. SpellsCommand v (codes "register" ∷ fields)) made
    (fields, refl, (p.0, p.1, all, number_of-is p.0 order first, serial_of-is p.1 serial second, begins.0, ends.0))

request_spelled : (fields : List (List ℕ)) (c : Command) → request_of fields ≡ Some c → SpellsCommand c (codes "request" ∷ fields)
unfolding request_of
request_spelled fields c e =
    let (p, is_two, e1) = and_then_some _ (two fields) c e in
    let (serial, first, e2) = and_then_some _ (serial_of p.0) c e1 in
    let (named, second, e3) = and_then_some _ (label_of p.1) c e2 in
    let found = label_of-some p.1 named second in
    let made : Request serial named ≡ c = cc in
    subst (λ v. SpellsCommand v (codes "request" ∷ fields)) made
    (p.0, ap (after (codes "request")) (two_is fields p is_two ∙ ap (λ (l : List ℕ). p.0 ∷ l ∷ []) found.0), serial_of-is p.0 serial first, found.1)

-- what is made of the only field, of which a number is read so
alone_read : {A : Type 0} (read : List ℕ → Option ℕ) (Spells : List ℕ → ℕ → Type 0) → ((text : List ℕ) (n : ℕ) → read text ≡ Some n → Spells text n)
    → (make : ℕ → A) (fields : List (List ℕ)) (v : A) → option_map make (option_and_then read (one fields)) ≡ Some v
    → (a : List ℕ) × (n : ℕ) × (fields ≡ a ∷ []) × Spells a n × (make n ≡ v)
alone_read read Spells is make fields v e =
    let (n, both, made) = map_some make _ v e in
    let (a, is_one, e1) = and_then_some read (one fields) n both in
    (a, n, one_is fields a is_one, is a n e1, made)

decline_spelled : (fields : List (List ℕ)) (c : Command) → option_map Decline (number_alone fields) ≡ Some c → SpellsCommand c (codes "decline" ∷ fields)
unfolding number_alone
decline_spelled fields c e =
    let (a, request, is, spelled, made) = alone_read number_of IsNumberText number_of-is Decline fields c e in
    subst (λ v. SpellsCommand v (codes "decline" ∷ fields)) made (a, ap (after (codes "decline")) is, spelled)

revoke_spelled : (fields : List (List ℕ)) (c : Command) → option_map Revoke (number_alone fields) ≡ Some c → SpellsCommand c (codes "revoke" ∷ fields)
unfolding number_alone
revoke_spelled fields c e =
    let (a, request, is, spelled, made) = alone_read number_of IsNumberText number_of-is Revoke fields c e in
    subst (λ v. SpellsCommand v (codes "revoke" ∷ fields)) made (a, ap (after (codes "revoke")) is, spelled)

status_spelled : (fields : List (List ℕ)) (q : Query) → option_map Status (serial_alone fields) ≡ Some q → SpellsQuery q (codes "status" ∷ fields)
unfolding serial_alone
status_spelled fields q e =
    let (a, serial, is, spelled, made) = alone_read serial_of IsSerialText serial_of-is Status fields q e in
    subst (λ v. SpellsQuery v (codes "status" ∷ fields)) made (a, ap (after (codes "status")) is, spelled)

listing_spelled : (fields : List (List ℕ)) (q : Query) → option_map Listing (serial_alone fields) ≡ Some q → SpellsQuery q (codes "listing" ∷ fields)
unfolding serial_alone
listing_spelled fields q e =
    let (a, serial, is, spelled, made) = alone_read serial_of IsSerialText serial_of-is Listing fields q e in
    subst (λ v. SpellsQuery v (codes "listing" ∷ fields)) made (a, ap (after (codes "listing")) is, spelled)

ocsp_spelled : (fields : List (List ℕ)) (bytes : List ℕ) → ocsp_of fields ≡ Some bytes → SpellsOcsp bytes (codes "ocsp" ∷ fields)
unfolding ocsp_of
ocsp_spelled fields bytes e =
    let (a, is_one, e1) = and_then_some hex_of (one fields) bytes e in
    (a, ap (after (codes "ocsp")) (one_is fields a is_one), hex_of-some a bytes e1)

-- ---- a word and its fields

-- what fields say
abbrev Says : List (List ℕ) → Meaning → Type 0
Says fields (means_command command) = SpellsCommand command fields
Says fields (means_query query) = SpellsQuery query fields
Says fields (is_ocsp_line bytes) = SpellsOcsp bytes fields

-- one word more: what is read where it is this one, and where it is another
word_or : {A : Type 0} (make : A → Meaning) (word text : List ℕ) (fields : List (List ℕ)) (o : Option A) (y : Option Meaning) (v : Meaning)
    → ((a : A) → o ≡ Some a → Says (text ∷ fields) (make a)) → (y ≡ Some v → Says (word ∷ fields) v)
    → cond (bytes_eq word text) (option_map make o) y ≡ Some v → Says (word ∷ fields) v
word_or {A} make word text fields o y v here other = go (bytes_eq word text) refl
  where
    go : (b : Bool) → bytes_eq word text ≡ b → cond b (option_map make o) y ≡ Some v → Says (word ∷ fields) v
    go true is e =
        let same : word ≡ text = (bytes_eq-Decides word text).0 is in
        let (a, found, made) = map_some make o v e in
        subst (Says (word ∷ fields)) made (subst (λ w. Says (w ∷ fields) (make a)) (sym same) (here a found))
    go false is e = other e

-- a word with no field
lone : {A : Type 0} (Spells : A → List (List ℕ) → Type 0) (text : List ℕ) (value : A) (fields : List (List ℕ)) → Spells value (text ∷ []) → (v : A) → alone value fields ≡ Some v → Spells v (text ∷ fields)
lone Spells text value fields spelled v e =
    let is = alone_is value v fields e in
    subst (λ w. Spells w (text ∷ fields)) is.1 (subst (λ rest. Spells value (text ∷ rest)) (sym is.0) spelled)

-- what is read from a word and its fields is what they say
asked_spelled : (word : List ℕ) (fields : List (List ℕ)) (v : Meaning) → query_by word fields ≡ Some v → Says (word ∷ fields) v
unfolding query_by
asked_spelled word fields v =
    word_or means_query word (codes "status") fields (option_map Status (serial_alone fields)) _ v (λ q e. status_spelled fields q e)
    (word_or means_query word (codes "counts") fields (alone Counts fields) _ v (λ q e. lone SpellsQuery (codes "counts") Counts fields refl q e)
    (word_or means_query word (codes "listing") fields (option_map Listing (serial_alone fields)) _ v (λ q e. listing_spelled fields q e)
    (word_or means_query word (codes "overdue") fields (alone Overdue fields) _ v (λ q e. lone SpellsQuery (codes "overdue") Overdue fields refl q e)
    (word_or means_query word (codes "next-crl") fields (alone NextCrl fields) _ v (λ q e. lone SpellsQuery (codes "next-crl") NextCrl fields refl q e)
    (word_or is_ocsp_line word (codes "ocsp") fields (ocsp_of fields) None v (λ bytes e. ocsp_spelled fields bytes e) (λ none. absurd (cc none)))))))

revoking_spelled : (word : List ℕ) (fields : List (List ℕ)) (v : Meaning) → revoking_by word fields ≡ Some v → Says (word ∷ fields) v
unfolding revoking_by
revoking_spelled word fields v =
    word_or means_command word (codes "request") fields (request_of fields) _ v (λ c e. request_spelled fields c e)
    (word_or means_command word (codes "decline") fields (option_map Decline (number_alone fields)) _ v (λ c e. decline_spelled fields c e)
    (word_or means_command word (codes "revoke") fields (option_map Revoke (number_alone fields)) _ v (λ c e. revoke_spelled fields c e)
    (word_or means_command word (codes "crl") fields (alone IssueCrl fields) (query_by word fields) v (λ c e. lone SpellsCommand (codes "crl") IssueCrl fields refl c e) (asked_spelled word fields v))))

said_spelled : (word : List ℕ) (fields : List (List ℕ)) (v : Meaning) → meaning_by word fields ≡ Some v → Says (word ∷ fields) v
unfolding meaning_by
said_spelled word fields v =
    word_or means_command word (codes "subscriber") fields (subscriber_of fields) _ v (λ c e. subscriber_spelled fields c e)
    (word_or means_command word (codes "order") fields (order_of fields) _ v (λ c e. order_spelled fields c e)
    (word_or means_command word (codes "register") fields (register_of fields) (revoking_by word fields) v (λ c e. register_spelled fields c e) (revoking_spelled word fields v)))

-- ---- what is spelled is read

pub register_read : (order serial not_before not_after : ℕ) (fields : List (List ℕ)) → SpellsRegister order serial not_before not_after fields
    → register_of fields ≡ Some (Register order serial not_before not_after)
unfolding register_of register_by
register_read order serial not_before not_after fields (a, b, is, first, second, third, fourth) =
    rw (
      is,
      number_of-some a order first,
      serial_of-some b serial second,
      moment_of-text not_before third,
      moment_of-text not_after fourth,
    ) refl

command_read : (c : Command) (fields : List (List ℕ)) → SpellsCommand c fields → meaning_in_fields fields ≡ Some (means_command c)
unfolding meaning_in_fields meaning_by revoking_by subscriber_of order_of request_of number_alone
command_read (Subscriber name) fields (is, label) = rw (is, label_of-is name label) refl
command_read (Order subscriber days) fields (a, b, is, first, second) =
    rw (is, number_of-some a subscriber first, number_of-some b days second) refl
command_read (Register order serial not_before not_after) fields (rest, is, spelled) =
    rw (is, register_read order serial not_before not_after rest spelled) refl
command_read (Request serial named) fields (a, is, first, second) = rw (is, serial_of-some a serial first, label_of-is named second) refl
command_read (Decline request) fields (a, is, first) = rw (is, number_of-some a request first) refl
command_read (Revoke request) fields (a, is, first) = rw (is, number_of-some a request first) refl
command_read IssueCrl fields is = rw is refl

query_read : (q : Query) (fields : List (List ℕ)) → SpellsQuery q fields → meaning_in_fields fields ≡ Some (means_query q)
unfolding meaning_in_fields meaning_by revoking_by query_by serial_alone
query_read (Status serial) fields (a, is, first) = rw (is, serial_of-some a serial first) refl
query_read Counts fields is = rw is refl
query_read (Listing serial) fields (a, is, first) = rw (is, serial_of-some a serial first) refl
query_read Overdue fields is = rw is refl
query_read NextCrl fields is = rw is refl

ocsp_read : (bytes : List ℕ) (fields : List (List ℕ)) → SpellsOcsp bytes fields → meaning_in_fields fields ≡ Some (is_ocsp_line bytes)
unfolding meaning_in_fields meaning_by revoking_by query_by ocsp_of
ocsp_read bytes fields (digits, is, hex) = rw (is, hex_of-is digits bytes hex) refl

-- ---- the whole line

means_said : (line : List ℕ) (m : Meaning) → LineMeans line m → meaning_in_fields (fields_of line) ≡ Some m
means_said line (means_command c) spelled = command_read c (fields_of line) spelled
means_said line (means_query q) spelled = query_read q (fields_of line) spelled
means_said line (is_ocsp_line bytes) spelled = ocsp_read bytes (fields_of line) spelled

fields_said : (fields : List (List ℕ)) (m : Meaning) → meaning_in_fields fields ≡ Some m → Says fields m
unfolding meaning_in_fields
fields_said [] m e = cc e
fields_said (word ∷ fields) m e = said_spelled word fields m e

said_means : (line : List ℕ) (m : Meaning) → Says (fields_of line) m → LineMeans line m
said_means line (means_command c) said = said
said_means line (means_query q) said = said
said_means line (is_ocsp_line bytes) said = said

-- what is read is what the line means
pub means_found : (line : List ℕ) (r : Option ParsedLine) → option_map meaning_of r ≡ meaning_in_fields (fields_of line) → IfSome r (λ read. LineMeans line (meaning_of read))
means_found line None e = tt
means_found line (Some read) e = said_means line (meaning_of read) (fields_said (fields_of line) (meaning_of read) (sym e))

-- and what it means is read
pub means_only : (line : List ℕ) (r : Option ParsedLine) (m : Meaning) → option_map meaning_of r ≡ meaning_in_fields (fields_of line) → LineMeans line m
    → option_map meaning_of r ≡ Some m
means_only line r m e is = e ∙ means_said line m is

-- where nothing is read, it means nothing
pub means_none : (line : List ℕ) (r : Option ParsedLine) → option_map meaning_of r ≡ meaning_in_fields (fields_of line) → IfNone r (IsUnreadable line)
means_none line None e = λ m is. let both : None ≡ Some m = e ∙ means_said line m is in cc
means_none line (Some read) e = tt

-- no line has two meanings
pub one_meaning : OneMeaning
one_meaning line a b is_a is_b = let both : Some a ≡ Some b = sym (means_said line a is_a) ∙ means_said line b is_b in cc

-- ---- rows of an import

-- what is read of a row, behind the word `register`, is what it spells
pub row_spelled : (row : List (List ℕ)) (c : Command) → register_of row ≡ Some c → SpellsCommand c (codes "register" ∷ row)
row_spelled row c e = register_spelled row c e

register_said : (row : List (List ℕ)) → register_of row ≡ None → meaning_in_fields (codes "register" ∷ row) ≡ None
unfolding meaning_in_fields meaning_by
register_said row e = rw e refl

pub row_unread : (row : List (List ℕ)) → register_of row ≡ None → (c : Command) → ¬ SpellsCommand c (codes "register" ∷ row)
row_unread row e c spelled = let both = sym (register_said row e) ∙ command_read c (codes "register" ∷ row) spelled in cc both
