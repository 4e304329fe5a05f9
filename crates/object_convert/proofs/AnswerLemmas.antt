-- A text has one answer.
use Rattle.std.proofs.Common.{◌≡◌, ◌≢◌, inl, inr, ℕ, List, Some, None, refl, sym, ◌∙◌, subst}
use Rattle.fields.specs.declared.map.FieldPair.{FieldPair}
use Rattle.fields.specs.declared.table.FieldRow.{FieldRow}
use Rattle.fields.specs.declared.table.VersionTable.{VersionTable}
use Rattle.release_view.specs.Views.{version_table_in}
use Rattle.release_view.specs.declared.known.KnownVersion.{KnownVersion}
use Rattle.serde_json.specs.Data.{Data}
use Rattle.serde_json.specs.Find.{get}
use Rattle.serde_json.specs.Read.{read}
use Rattle.conversion.specs.Reading.{Reads}
use Rattle.conversion.specs.Trees.{Names}
use Rattle.conversion.specs.declared.mode.Mode.TheVariants.{Stored}
use Rattle.conversion.specs.declared.fault.ReadCause.{ReadCause}
use Rattle.conversion.proofs.FaultLemmas.{one_fault}
use Rattle.conversion.proofs.ReadLemmas.{reads_as_one, faultless}
use Rattle.conversion.proofs.TreeLemmas.{some_one, not_both}
use Rattle.conversion.proofs.WholeReadLemmas.{one_whole}
use Rattle.conversion.specs.Whole.{metadata, IsTextOf, IsWhole}
use Rattle.object_convert.specs.Convert.{table_of, IsRead, IsConverted, Converts, IsUnreadable, IsTreeFault, IsConvertFault}
use Rattle.object_convert.specs.Laws.{HasOneAnswer}
use Rattle.object_convert.specs.declared.fault.ConvertFault.{ConvertFault}
use Rattle.object_convert.specs.declared.fault.ConvertFault.TheVariants.{NotAnObject, UnknownVersion, Bad, UnknownTarget, Memory}

-- ---- one reading

same_reading : (versions : List KnownVersion) (tree : Data) (table other : VersionTable) (held kept : List FieldPair) → IsRead versions tree table held → IsRead versions tree other kept → (table ≡ other) × (held ≡ kept)
same_reading versions tree table other held kept h g =
    let same : table ≡ other = some_one (table_of versions tree) table other h.of_table g.of_table in
    (same, reads_as_one Stored table.rows tree held kept h.reads (subst (λ (t : VersionTable). Reads Stored t.rows tree kept) (sym same) g.reads))

same_object : (versions : List KnownVersion) (tree : Data) (to : List ℕ) (a b : Data) → IsConverted versions tree to a → IsConverted versions tree to b → a ≡ b
same_object versions tree to a b h g =
    let same = same_reading versions tree h.table g.table h.held g.held h.taken g.taken in
    let target : h.target ≡ g.target = some_one (version_table_in versions to h.table.group h.table.resource) h.target g.target h.found (subst (λ (t : VersionTable). version_table_in versions to t.group t.resource ≡ Some g.target) (sym same.0) g.found) in
    one_whole h.target to h.held (get metadata tree) a b h.written
    (subst (λ held. IsWhole h.target to held (get metadata tree) b) (sym same.1) (subst (λ (t : VersionTable). IsWhole t to g.held (get metadata tree) b) (sym target) g.written))

-- ---- one fault

either_unreadable : (rows : List FieldRow) (tree : Data) (path other : Names) (cause why : ReadCause) → IsUnreadable rows tree path cause → IsUnreadable rows tree other why → (path ≡ other) × (cause ≡ why)
either_unreadable rows tree path other cause why (inl h) (inl g) = one_fault Stored rows tree path other cause why h g
either_unreadable rows tree path other cause why (inl h) (inr g) = absurd (faultless Stored rows tree g.0.0 path cause g.0.1 h)
either_unreadable rows tree path other cause why (inr h) (inl g) = absurd (faultless Stored rows tree h.0.0 other why h.0.1 g)
either_unreadable rows tree path other cause why (inr h) (inr g) = (h.2 ∙ sym g.2, h.3 ∙ sym g.3)

not_unreadable : (versions : List KnownVersion) (tree : Data) (table other : VersionTable) (held : List FieldPair) (path : Names) (cause : ReadCause) → IsRead versions tree table held → table_of versions tree ≡ Some other → ¬ IsUnreadable other.rows tree path cause
not_unreadable versions tree table other held path cause h is fault =
    let same : other ≡ table = some_one (table_of versions tree) other table is h.of_table in
    by (subst (λ (t : VersionTable). IsUnreadable t.rows tree path cause) same fault)
  where
    by : IsUnreadable table.rows tree path cause → ⊥
    by (inl g) = faultless Stored table.rows tree held path cause h.reads g
    by (inr g) = g.1 h.whole

same_tree_fault : (versions : List KnownVersion) (tree : Data) (to : List ℕ) (f g : ConvertFault) → IsTreeFault versions tree to f → IsTreeFault versions tree to g → f ≢ Memory → g ≢ Memory → f ≡ g
same_tree_fault versions tree to NotAnObject g h k some other = absurd h
same_tree_fault versions tree to Memory g h k some other = absurd (some refl)
same_tree_fault versions tree to UnknownVersion NotAnObject h k some other = absurd k
same_tree_fault versions tree to UnknownVersion UnknownVersion h k some other = refl
same_tree_fault versions tree to UnknownVersion (Bad path cause) h k some other = absurd (not_both (table_of versions tree) k.0 h k.1)
same_tree_fault versions tree to UnknownVersion UnknownTarget h k some other = absurd (not_both (table_of versions tree) k.0 h k.2.of_table)
same_tree_fault versions tree to UnknownVersion Memory h k some other = absurd (other refl)
same_tree_fault versions tree to (Bad path cause) NotAnObject h k some other = absurd k
same_tree_fault versions tree to (Bad path cause) UnknownVersion h k some other = absurd (not_both (table_of versions tree) h.0 k h.1)
same_tree_fault versions tree to (Bad path cause) (Bad way why) h k some other =
    let same : h.0 ≡ k.0 = some_one (table_of versions tree) h.0 k.0 h.1 k.1 in
    let one = either_unreadable h.0.rows tree path way cause why h.2 (subst (λ (t : VersionTable). IsUnreadable t.rows tree way why) (sym same) k.2) in
    λ i. Bad (one.0 i) (one.1 i)
same_tree_fault versions tree to (Bad path cause) UnknownTarget h k some other = absurd (not_unreadable versions tree k.0 h.0 k.1 path cause k.2 h.1 h.2)
same_tree_fault versions tree to (Bad path cause) Memory h k some other = absurd (other refl)
same_tree_fault versions tree to UnknownTarget NotAnObject h k some other = absurd k
same_tree_fault versions tree to UnknownTarget UnknownVersion h k some other = absurd (not_both (table_of versions tree) h.0 k h.2.of_table)
same_tree_fault versions tree to UnknownTarget (Bad path cause) h k some other = absurd (not_unreadable versions tree h.0 k.0 h.1 path cause h.2 k.1 k.2)
same_tree_fault versions tree to UnknownTarget UnknownTarget h k some other = refl
same_tree_fault versions tree to UnknownTarget Memory h k some other = absurd (other refl)

not_refused : (versions : List KnownVersion) (tree : Data) (to : List ℕ) (shown : Data) (f : ConvertFault) → IsConverted versions tree to shown → IsTreeFault versions tree to f → f ≡ Memory
not_refused versions tree to shown NotAnObject h k = absurd k
not_refused versions tree to shown UnknownVersion h k = absurd (not_both (table_of versions tree) h.table k h.taken.of_table)
not_refused versions tree to shown (Bad path cause) h k = absurd (not_unreadable versions tree h.table k.0 h.held path cause h.taken k.1 k.2)
not_refused versions tree to shown UnknownTarget h k =
    let same = same_reading versions tree k.0 h.table k.1 h.held k.2 h.taken in
    absurd (not_both (version_table_in versions to h.table.group h.table.resource) h.target (subst (λ (t : VersionTable). version_table_in versions to t.group t.resource ≡ None) same.0 k.3) h.found)
not_refused versions tree to shown Memory h k = refl

-- ---- of a text

same_tree : (text : List ℕ) (a b : Data) → IsTextOf text a → IsTextOf text b → a ≡ b
same_tree text a b h g = some_one (read text) a b h.read g.read

same_fault : (versions : List KnownVersion) (text to : List ℕ) (f g : ConvertFault) → ((tree : Data) × IsTextOf text tree × IsTreeFault versions tree to f) → ((tree : Data) × IsTextOf text tree × IsTreeFault versions tree to g) → f ≢ Memory → g ≢ Memory → f ≡ g
same_fault versions text to f g h k some other =
    same_tree_fault versions h.0 to f g h.2 (subst (λ t. IsTreeFault versions t to g) (same_tree text k.0 h.0 k.1 h.1) k.2) some other

one_text_fault : (versions : List KnownVersion) (text to : List ℕ) (f g : ConvertFault) → IsConvertFault versions text to f → IsConvertFault versions text to g → f ≢ Memory → g ≢ Memory → f ≡ g
one_text_fault versions text to Memory g h k some other = absurd (some refl)
one_text_fault versions text to NotAnObject NotAnObject h k some other = refl
one_text_fault versions text to NotAnObject UnknownVersion h k some other = absurd (h k.0 k.1)
one_text_fault versions text to NotAnObject (Bad path cause) h k some other = absurd (h k.0 k.1)
one_text_fault versions text to NotAnObject UnknownTarget h k some other = absurd (h k.0 k.1)
one_text_fault versions text to NotAnObject Memory h k some other = absurd (other refl)
one_text_fault versions text to UnknownVersion NotAnObject h k some other = absurd (k h.0 h.1)
one_text_fault versions text to UnknownVersion UnknownVersion h k some other = refl
one_text_fault versions text to UnknownVersion (Bad path cause) h k some other = same_fault versions text to UnknownVersion (Bad path cause) h k some other
one_text_fault versions text to UnknownVersion UnknownTarget h k some other = same_fault versions text to UnknownVersion UnknownTarget h k some other
one_text_fault versions text to UnknownVersion Memory h k some other = absurd (other refl)
one_text_fault versions text to (Bad path cause) NotAnObject h k some other = absurd (k h.0 h.1)
one_text_fault versions text to (Bad path cause) UnknownVersion h k some other = same_fault versions text to (Bad path cause) UnknownVersion h k some other
one_text_fault versions text to (Bad path cause) (Bad way why) h k some other = same_fault versions text to (Bad path cause) (Bad way why) h k some other
one_text_fault versions text to (Bad path cause) UnknownTarget h k some other = same_fault versions text to (Bad path cause) UnknownTarget h k some other
one_text_fault versions text to (Bad path cause) Memory h k some other = absurd (other refl)
one_text_fault versions text to UnknownTarget NotAnObject h k some other = absurd (k h.0 h.1)
one_text_fault versions text to UnknownTarget UnknownVersion h k some other = same_fault versions text to UnknownTarget UnknownVersion h k some other
one_text_fault versions text to UnknownTarget (Bad path cause) h k some other = same_fault versions text to UnknownTarget (Bad path cause) h k some other
one_text_fault versions text to UnknownTarget UnknownTarget h k some other = refl
one_text_fault versions text to UnknownTarget Memory h k some other = absurd (other refl)

refused_tree : (versions : List KnownVersion) (text to : List ℕ) (shown : Data) (f : ConvertFault) → Converts versions text to shown → ((tree : Data) × IsTextOf text tree × IsTreeFault versions tree to f) → f ≡ Memory
refused_tree versions text to shown f h k = not_refused versions h.0 to shown f h.2 (subst (λ t. IsTreeFault versions t to f) (same_tree text k.0 h.0 k.1 h.1) k.2)

either_text : (versions : List KnownVersion) (text to : List ℕ) (shown : Data) (f : ConvertFault) → Converts versions text to shown → IsConvertFault versions text to f → f ≡ Memory
either_text versions text to shown NotAnObject h k = absurd (k h.0 h.1)
either_text versions text to shown UnknownVersion h k = refused_tree versions text to shown UnknownVersion h k
either_text versions text to shown (Bad path cause) h k = refused_tree versions text to shown (Bad path cause) h k
either_text versions text to shown UnknownTarget h k = refused_tree versions text to shown UnknownTarget h k
either_text versions text to shown Memory h k = refl

pub one_answer : (versions : List KnownVersion) (text to : List ℕ) → HasOneAnswer versions text to
one_answer versions text to = record {
  one_object = λ a b h g. same_object versions h.0 to a b h.2 (subst (λ t. IsConverted versions t to b) (same_tree text g.0 h.0 g.1 h.1) g.2);
  one_fault = one_text_fault versions text to;
  either = either_text versions text to;
}
