-- How a search ends.
use Rattle.std.proofs.Common.{◌≡◌, ℕ, List, Option, Some, Ok, sym, ap, subst}
use Rattle.outside.specs.Contents.{Contents}
use Rattle.gcl_model.specs.Forms.{Form}
use Rattle.gcl_parser.specs.QueryForm.{query_form}
use Rattle.query_names.specs.Names.{Defined}
use Rattle.query_names.specs.PutIn.{put_in}
use Rattle.grep_run.specs.Searches.{Ends, FilesEnd, IsBegun, IsSearched, TextEnds, form_of_text, request_with}
use Rattle.grep_run.specs.declared.asked.Asked.{Asked}
use Rattle.grep_run.specs.declared.status.Status.{Status}
use Rattle.grep_run.specs.declared.status.Status.TheVariants.{Found, NotFound, LeftOut, BadName, BadQuery, WriteFault, NoMemory}

-- the files were searched for the query that the text is
pub text_ends : (told : Option Contents) (asked : Asked) (text : List ℕ) (form : Form) (status : Status) (old new : Option (List ℕ)) (f f' s s' : ℕ) → query_form text ≡ Some form →
    FilesEnd told (request_with asked form) asked.names.now status old new f f' s s' → TextEnds told asked text status old new f f' s s'
text_ends told asked text form Found old new f f' s s' is h = record { form = form; form_is = is; summary = h.0; status_is = h.1; searched = h.2 }
text_ends told asked text form NotFound old new f f' s s' is h = record { form = form; form_is = is; summary = h.0; status_is = h.1; searched = h.2 }
text_ends told asked text form LeftOut old new f f' s s' is h = record { form = form; form_is = is; summary = h.0; status_is = h.1; searched = h.2 }
text_ends told asked text form (BadName fault) old new f f' s s' is h = absurd h
text_ends told asked text form (BadQuery fault) old new f f' s s' is h = absurd h
text_ends told asked text form WriteFault old new f f' s s' is h = record { form = form; form_is = is; begun = h }
text_ends told asked text form NoMemory old new f f' s s' is h = tt

-- the text is the query with all names put in
pub ends_of_text : (told : Option Contents) (asked : Asked) (defined : Defined) (query text : List ℕ) (status : Status) (old new : Option (List ℕ)) (f f' s s' : ℕ) → put_in defined query ≡ Ok text →
    TextEnds told asked text status old new f f' s s' → Ends told asked defined query status old new f f' s s'
ends_of_text told asked defined query text Found old new f f' s s' is h = subst (λ (o : Option Form). IsSearched told asked o Found old new f f' s s') (sym (ap form_of_text is)) h
ends_of_text told asked defined query text NotFound old new f f' s s' is h = subst (λ (o : Option Form). IsSearched told asked o NotFound old new f f' s s') (sym (ap form_of_text is)) h
ends_of_text told asked defined query text LeftOut old new f f' s s' is h = subst (λ (o : Option Form). IsSearched told asked o LeftOut old new f f' s s') (sym (ap form_of_text is)) h
ends_of_text told asked defined query text (BadName fault) old new f f' s s' is h = absurd h
ends_of_text told asked defined query text (BadQuery fault) old new f f' s s' is h = (text, is, h)
ends_of_text told asked defined query text WriteFault old new f f' s s' is h = subst (λ (o : Option Form). IsBegun told asked o old new) (sym (ap form_of_text is)) h
ends_of_text told asked defined query text NoMemory old new f f' s s' is h = tt
